-- Grid points, and the plane at one.
use Rattle.std.specs.Prelude.{ℕ, ◌*◌, ◌^◌, ◌<◌, ◌≤◌, ◌≡◌, List, map, ℤ, slice_index}
use Rattle.case_types.specs.declared.rounds.Column.{Column}
use Rattle.case_types.specs.Arithmetic.Bounds.{Box, one, plane_at}
use Rattle.case_types.specs.Grid.Cells.{GridPoint}
use Rattle.log_laws.specs.Sums.{sum_below}

-- ---- grid points: a composition of n components in 2^-20, a packing in 2^-40
pub record IsGridPoint (n : ℕ) (g : GridPoint) : Type 0 where
  pub whole : sum_below n (slice_index g.composition) ≡ 2 ^ 20
  -- there is nothing of the components that aren't there
  pub rest : (i : ℕ) → n ≤ i → slice_index g.composition i ≡ 0
  pub not_empty : 1 ≤ g.packing
  pub not_full : g.packing < one

-- the box of one composition
abbrev pub point_box : List ℕ → Box
point_box composition = let ends = map (λ x. x * 2 ^ 20) composition in record { lo = ends; hi = ends }

abbrev pub plane_at_point : ℕ → List ℤ → GridPoint → ℤ
plane_at_point n lam g = plane_at n lam g.composition (2 ^ 20)

-- where a column stands
abbrev pub point_of : Column → GridPoint
point_of col = record { composition = col.comp; packing = col.packing }
