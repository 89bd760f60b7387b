-- The column that is kept in place of the one that a search finds.
use Rattle.std.specs.Prelude.{◌≡◌, ⊤}
use Rattle.case_types.specs.declared.planes.Plane.{Plane}
use Rattle.case_types.specs.declared.rounds.Column.{Column}
use Rattle.energy_surface.specs.declared.found.Found.{Found}
use Rattle.energy_surface.specs.declared.found.Found.TheVariants.{AllClear, Refuted, Spent, Grain}
use Rattle.energy_surface.specs.Columns.{IsColumn}
use Rattle.energy_surface.specs.Surfaces.{Surface}
use Rattle.surface_rounds.specs.Guessing.{LiesNoHigher}

-- what is found below the plane is a column
abbrev pub IsKeptColumn : Surface → Found → Type 0
IsKeptColumn s (AllClear low) = ⊤
IsKeptColumn s (Refuted column) = IsColumn s column
IsKeptColumn s (Spent low) = ⊤
IsKeptColumn s (Grain low cell) = ⊤

-- another column, which lies no higher against the plane
pub record IsPolishedColumn (s : Surface) (plane : Plane) (found : Column) (kept : Found) : Type 0 where
  pub polished : Column
  pub is : kept ≡ Refuted polished
  pub column : IsColumn s polished
  pub no_higher : LiesNoHigher s plane polished found

-- all else stays
abbrev pub IsPolished : Surface → Plane → Found → Found → Type 0
IsPolished s plane (AllClear low) kept = kept ≡ AllClear low
IsPolished s plane (Refuted column) kept = IsPolishedColumn s plane column kept
IsPolished s plane (Spent low) kept = kept ≡ Spent low
IsPolished s plane (Grain low cell) kept = kept ≡ Grain low cell
