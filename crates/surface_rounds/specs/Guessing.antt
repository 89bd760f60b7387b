-- Guesses of the phases of a flash.
use Rattle.std.specs.Prelude.{◌^◌, ◌<◌, All, ◌-ℤ◌, ◌≤ℤ◌, unsigned_abs}
use Rattle.case_types.specs.declared.cases.Case.{Case}
use Rattle.case_types.specs.declared.phases.Phase.{Phase}
use Rattle.case_types.specs.declared.phases.Split.{Split}
use Rattle.case_types.specs.declared.planes.Plane.{Plane}
use Rattle.case_types.specs.declared.rounds.Column.{Column}
use Rattle.case_types.specs.Arithmetic.Splits.{phase_up}
use Rattle.case_types.specs.Energy.Divisions.{Divides, division_of}
use Rattle.case_types.specs.Grid.Columns.{point_of, plane_at_point}
use Rattle.energy_surface.specs.Surfaces.{Surface}

-- a division of the feed, with phases whose upper energies are of a size that columns have
pub record IsGuess (s : Surface) (c : Case) (split : Split) : Type 0 where
  pub divides : Divides c (division_of split)
  pub shallow : All (λ (f : Phase). unsigned_abs (phase_up s.count s.up f) < 2 ^ 49) split.phases.items

-- the one column lies at most as far above the plane as the other
abbrev pub LiesNoHigher : Surface → Plane → Column → Column → Type 0
LiesNoHigher s plane col other =
    (col.up -ℤ plane_at_point s.count plane.lam (point_of col)) ≤ℤ (other.up -ℤ plane_at_point s.count plane.lam (point_of other))
