-- What the answer of a search says.
use Rattle.std.specs.Prelude.{ℕ, ◌≡◌, ℤ, neg_ℤ, ◌≤ℤ◌, ◌<ℤ◌}
use Rattle.case_types.specs.declared.units.Units.{Units}
use Rattle.case_types.specs.Grid.Cells.{region_of, root_region}
use Rattle.case_types.specs.Grid.Columns.{point_of}
use Rattle.energy_surface.specs.declared.found.Found.{Found}
use Rattle.energy_surface.specs.declared.found.Found.TheVariants.{AllClear, Refuted, Spent, Grain}
use Rattle.energy_surface.specs.Columns.{IsColumn, Refutes}
use Rattle.energy_surface.specs.Searches.{IsGrainOf}
use Rattle.energy_surface.specs.Surfaces.{Under, plain_low}

-- some cell isn't cleared, which the low of the cells with leaf letters shows
abbrev pub IsOpen : Under → ℤ → Type 0
IsOpen u low = low <ℤ neg_ℤ u.delta

-- what each answer says of the surface, the plane and the units at the end
abbrev pub IsFound : Under → Units → Found → Type 0
IsFound u units (AllClear low) = neg_ℤ u.delta ≤ℤ low
IsFound u units (Refuted column) = IsColumn u.surface column × Refutes u (point_of column)
IsFound u units (Spent low) = IsOpen u low × (units.spent ≡ units.budget)
IsFound u units (Grain low cell) = IsOpen u low × IsGrainOf u (region_of cell) (region_of cell)

-- unless all is cleared, the whole domain as one cell isn't
abbrev pub IsRootOpen : Under → Found → Type 0
IsRootOpen u (AllClear low) = Unit {0}
IsRootOpen u (Refuted column) = plain_low u.surface u.plane (root_region u.surface.count) <ℤ neg_ℤ u.delta
IsRootOpen u (Spent low) = plain_low u.surface u.plane (root_region u.surface.count) <ℤ neg_ℤ u.delta
IsRootOpen u (Grain low cell) = plain_low u.surface u.plane (root_region u.surface.count) <ℤ neg_ℤ u.delta

-- a refutation costs a unit
abbrev pub units_of : Found → ℕ
units_of (AllClear low) = 0
units_of (Refuted column) = 1
units_of (Spent low) = 0
units_of (Grain low cell) = 0
