-- Columns of a surface, and what it says that a grid point cuts off a plane.
use Rattle.std.specs.Prelude.{◌^◌, ◌<◌, ◌≡◌, length, ℤ, pos, ◌+ℤ◌, ◌<ℤ◌, unsigned_abs}
use Rattle.log_laws.specs.Whole.{ceil_div}
use Rattle.case_types.specs.declared.rounds.Column.{Column}
use Rattle.case_types.specs.Grid.Cells.{GridPoint}
use Rattle.case_types.specs.Grid.Columns.{IsGridPoint, point_box, point_of, plane_at_point}
use Rattle.energy_surface.specs.Surfaces.{Surface, Under}

abbrev pub point_up : Surface → GridPoint → ℤ
point_up s g = s.up (point_box g.composition) g.packing

-- the energy at the point is below the plane by more than delta
pub record Refutes (u : Under) (g : GridPoint) : Type 0 where
  pub point : IsGridPoint u.surface.count g
  pub small : unsigned_abs (point_up u.surface g) < 2 ^ 49
  pub below : (point_up u.surface g +ℤ u.delta) <ℤ plane_at_point u.surface.count u.plane g

-- a column has an entry for each of the four components that a case may have
pub record IsColumn (s : Surface) (col : Column) : Type 0 where
  pub entries : length col.comp ≡ 4
  pub point : IsGridPoint s.count (point_of col)
  pub up : col.up ≡ point_up s (point_of col)
  pub small : unsigned_abs col.up < 2 ^ 49
  pub cost : col.cost ≡ ceil_div col.up (pos (2 ^ 10))
