-- The tangent plane of a basis, rounded down.
use Rattle.std.specs.Prelude.{ℕ, ◌^◌, if◌then◌else◌, nat_lt, List, [], ◌∷◌, ℤ, pos, ◌*ℤ◌}
use Rattle.log_laws.specs.Whole.{floor_over}
use Rattle.case_types.specs.declared.rounds.Column.{Column}
use Rattle.energy_surface.specs.Program.Bases.{system, costs_of}
use Rattle.energy_surface.specs.Program.Solutions.{size, slope}

-- its entry of a component in 2^-40 bit: costs are in 2^-30 bit, compositions in 2^-20
abbrev pub plane_entry : ℕ → List Column → List ℕ → ℕ → ℤ
plane_entry n cols at i = floor_over (slope n (system cols at) (costs_of cols at) i *ℤ pos (2 ^ 30)) (size n (system cols at))

-- and 0 for a component that isn't there
abbrev pub live_entry : ℕ → List Column → List ℕ → ℕ → ℤ
live_entry n cols at i = if nat_lt i n then plane_entry n cols at i else pos 0

abbrev pub plane_of : ℕ → List Column → List ℕ → List ℤ
plane_of n cols at = live_entry n cols at 0 ∷ live_entry n cols at 1 ∷ live_entry n cols at 2 ∷ live_entry n cols at 3 ∷ []
