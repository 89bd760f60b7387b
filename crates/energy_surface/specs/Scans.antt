-- The scan of states of one phase: the packing fractions that it tries, and the energy of the feed in one phase.
use Rattle.std.specs.Prelude.{ℕ, ◌*◌, ◌^◌, if◌then◌else◌, nat_eq, ℤ}
use Rattle.case_types.specs.declared.cases.Case.{Case}
use Rattle.case_types.specs.Arithmetic.Bounds.{box_of_parts}
use Rattle.energy_surface.specs.Surfaces.{Surface}

-- half the densest packing first, and then the multiples of a 64th of it
abbrev pub scan_packing : ℕ → ℕ
scan_packing k = if nat_eq k 0 then 2 ^ 39 else k * 2 ^ 34

-- the whole feed in one phase has at most this energy
abbrev pub one_phase_up : Surface → Case → ℕ → ℤ
one_phase_up s c y = s.up (box_of_parts s.count c.z) y
