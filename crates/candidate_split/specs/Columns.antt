-- The columns near the phases of a split.
use Rattle.std.specs.Prelude.{ℕ, ◌^◌, List, [], ◌∷◌, Bool, if◌then◌else◌, nat_lt, pos, unsigned_abs}
use Rattle.std.specs.List.{flat_map}
use Rattle.log_laws.specs.Whole.{ceil_div}
use Rattle.case_types.specs.declared.phases.Phase.{Phase}
use Rattle.case_types.specs.declared.rounds.Column.{Column}
use Rattle.case_types.specs.Grid.Cells.{GridPoint}
use Rattle.energy_surface.specs.Surfaces.{Surface}
use Rattle.energy_surface.specs.Columns.{point_up}
use Rattle.candidate_split.specs.Grid.{grid_fractions}

-- the grid point of a phase of n components
abbrev pub point_near : ℕ → Phase → GridPoint
point_near n f = record { composition = grid_fractions n f.parts; packing = f.packing }

abbrev pub has_column : Surface → GridPoint → Bool
has_column s g = nat_lt (unsigned_abs (point_up s g)) (2 ^ 49)

abbrev pub column_there : Surface → GridPoint → Column
column_there s g = record { comp = g.composition; packing = g.packing; up = point_up s g; cost = ceil_div (point_up s g) (pos (2 ^ 10)) }

-- none where the energy is too great for a column
abbrev pub column_near : Surface → ℕ → Phase → List Column
column_near s n f = if has_column s (point_near n f) then column_there s (point_near n f) ∷ [] else []

-- those of all phases, in order
abbrev pub columns_near : Surface → ℕ → List Phase → List Column
columns_near s n phases = flat_map (column_near s n) phases
