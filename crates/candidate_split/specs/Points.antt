-- Points near phases.
use Rattle.std.specs.Prelude.{ℕ}
use Rattle.case_types.specs.Grid.Cells.{GridPoint}
use Rattle.case_types.specs.Grid.Columns.{IsGridPoint}
use Rattle.candidate_split.specs.declared.points.Near.{Near}

-- where a point near a phase stands
abbrev pub place_of : Near → GridPoint
place_of near = record { composition = near.comp; packing = near.packing }

-- it is a grid point of n components
abbrev pub IsNear : ℕ → Near → Type 0
IsNear n near = IsGridPoint n (place_of near)
