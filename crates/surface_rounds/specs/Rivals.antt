-- The splits that are there before the first round.
use Rattle.std.specs.Prelude.{ℕ, ◌≡◌, ◌<◌, List, length, map, drop, All, ℤ, pos, ◌≤ℤ◌, slice_index_or}
use Rattle.case_types.specs.declared.cases.Case.{Case}
use Rattle.case_types.specs.declared.phases.Split.{Split}
use Rattle.case_types.specs.Arithmetic.Splits.{split_up}
use Rattle.energy_surface.specs.Scans.{scan_packing, one_phase_up}
use Rattle.energy_surface.specs.Surfaces.{Surface}
use Rattle.surface_rounds.specs.declared.splits.Rival.{Rival}
use Rattle.surface_rounds.specs.Guessing.{IsGuess}

-- the upper energy of the rival at a place
abbrev pub energy_at : List Rival → ℕ → ℤ
energy_at rivals k = slice_index_or (map (λ (r : Rival). r.u) rivals) k (pos 0)

pub record IsRival (s : Surface) (c : Case) (r : Rival) : Type 0 where
  pub guess : IsGuess s c r.split
  pub energy : r.u ≡ split_up s.count s.up r.split

-- the energy of the first one lies above that of no state of one phase that the scan tries
pub record AreRivals (s : Surface) (c : Case) (rivals : List Rival) : Type 0 where
  pub each : All (IsRival s c) rivals
  pub some : 0 < length rivals
  pub scanned : (k : ℕ) → k < 64 → energy_at rivals 0 ≤ℤ one_phase_up s c (scan_packing k)

-- the splits behind the first one, in their order
abbrev pub splits_behind : List Rival → List Split
splits_behind rivals = map (λ (r : Rival). r.split) (drop 1 rivals)
