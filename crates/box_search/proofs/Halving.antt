-- The parts that the halves of a cell have.
use Rattle.std.proofs.Common.{◌≡◌, ℕ, ◌==◌, List, ℤ, Bool, true, false, Option, Some, None, IfSome, ap, refl}
use Rattle.std.specs.Option.{option_map}
use Rattle.case_types.specs.Grid.Cells.{Region, region_of, box_of_region, cut, packing_edge, lower_half, upper_half, GridPoint, middle_point, midpoint}
use Rattle.case_types.specs.Grid.Columns.{point_box}
use Rattle.box_search.specs.declared.parts.BoxParts.{BoxParts}
use Rattle.box_search.specs.declared.parts.Half.{Half}
use Rattle.box_search.specs.declared.parts.Made.{Made}
use Rattle.box_search.specs.declared.parts.PointParts.{PointParts}
use Rattle.box_search.specs.Parts.{Meanings, IsOverBox, IsPoint, IsMade, AreSharedCompositions, AreSharedPackings, HasParts, point_in, grid_point, shared_along, logs_along}
use Rattle.box_search.proofs.Causes.{middle_there}

-- ---- along the packing: a cell with the same compositions
same_over : (m : Meanings) (lam : List ℤ) (r s : Region) (over : BoxParts) → s.lo ≡ r.lo → s.hi ≡ r.hi → IsOverBox m lam r over → IsOverBox m lam s over
same_over m lam r s over e f h =
    let box : box_of_region m.count s ≡ box_of_region m.count r = rw (e, f) refl in record { mix = rw box h.mix; plane = rw box h.plane }

same_middle : (m : Meanings) (r s : Region) (middle : Option PointParts) → s.lo ≡ r.lo → s.hi ≡ r.hi →
    point_in middle ≡ midpoint m.count r → IfSome middle (IsPoint m) →
    IfSome (option_map (λ (p : PointParts). p.mix) middle) (m.is_mix_up (point_box (middle_point m.count s).composition))
same_middle m r s None e f at h = tt
same_middle m r s (Some p) e f at h =
    let same : (middle_point m.count s).composition ≡ (middle_point m.count r).composition = rw (e, f) refl in
    let there : p.comp ≡ (middle_point m.count r).composition = ap (λ (g : GridPoint). g.composition) (middle_there m.count r (grid_point p) at) in
    rw (same, ← there) h.mix

pub shared_compositions : (m : Meanings) (lam : List ℤ) (r s : Region) (made : Made) (middle : Option PointParts) → s.lo ≡ r.lo → s.hi ≡ r.hi → IsMade m lam r made →
    point_in middle ≡ midpoint m.count r → IfSome middle (IsPoint m) →
    AreSharedCompositions m lam s made.over (option_map (λ (p : PointParts). p.mix) middle) made.slopes.mix
shared_compositions m lam r s made middle e f h at point = record {
  over = same_over m lam r s made.over e f h.over;
  middle = same_middle m r s middle e f at point;
  slope = rw (e, f) h.slopes.mix;
}

-- ---- along a fraction: a cell with the same packings
pub shared_packings : (m : Meanings) (lam : List ℤ) (r s : Region) (made : Made) → s.ylo ≡ r.ylo → s.yhi ≡ r.yhi → IsMade m lam r made →
    AreSharedPackings m s made.slopes.middle made.slopes.packing
shared_packings m lam r s made e f h =
    let same : cut s packing_edge ≡ cut r packing_edge = rw (e, f) refl in record { middle = rw same h.slopes.middle; slope = rw (e, f) h.slopes.packing }

-- ---- along either: the parts of a cell, and of its halves where its middle has its own parts
pub record Owned (m : Meanings) (lam : List ℤ) (half : Half) (made : Made) (middle : Option PointParts) : Type 0 where
  pub parts : HasParts m lam half
  pub made_own : IsMade m lam (region_of half.cell) made
  pub at : point_in middle ≡ midpoint m.count (region_of half.cell)
  pub point : IfSome middle (IsPoint m)

-- halves along a fraction have the packings of the cell
lower_packings : (edge : ℕ) (r s : Region) → (edge == packing_edge) ≡ false → s ≡ lower_half edge r → (s.ylo ≡ r.ylo) × (s.yhi ≡ r.yhi)
lower_packings edge r s e f = rw (f, e) (refl, refl)

upper_packings : (edge : ℕ) (r s : Region) → (edge == packing_edge) ≡ false → s ≡ upper_half edge r → (s.ylo ≡ r.ylo) × (s.yhi ≡ r.yhi)
upper_packings edge r s e f = rw (f, e) (refl, refl)

pub lower_parts : (m : Meanings) (lam : List ℤ) (edge : ℕ) (half lower : Half) (made : Made) (middle : Option PointParts) → Owned m lam half made middle →
    region_of lower.cell ≡ lower_half edge (region_of half.cell) → lower.from ≡ half.from → lower.to ≡ logs_along edge made half.to →
    lower.shared ≡ shared_along edge made middle → HasParts m lam lower
lower_parts m lam edge half lower made middle h cell from to shared = by_edge (edge == packing_edge) refl
  where
    r : Region
    r = region_of half.cell

    by_edge : (b : Bool) → (edge == packing_edge) ≡ b → HasParts m lam lower
    by_edge true e =
        let is : region_of lower.cell ≡ record r { yhi = cut r packing_edge } = rw e at cell in
        record {
          from = rw (ap (λ (s : Region). s.ylo) is, from) h.parts.from;
          to = rw (ap (λ (s : Region). s.yhi) is, to, e) h.made_own.slopes.middle;
          shared = rw (shared, e) (shared_compositions m lam r (region_of lower.cell) made middle (ap (λ (s : Region). s.lo) is) (ap (λ (s : Region). s.hi) is) h.made_own h.at h.point);
        }
    by_edge false e =
        let same = lower_packings edge r (region_of lower.cell) e cell in
        record {
          from = rw (same.0, from) h.parts.from;
          to = rw (same.1, to, e) h.parts.to;
          shared = rw (shared, e) (shared_packings m lam r (region_of lower.cell) made same.0 same.1 h.made_own);
        }

pub upper_parts : (m : Meanings) (lam : List ℤ) (edge : ℕ) (half upper : Half) (made : Made) (middle : Option PointParts) → Owned m lam half made middle →
    region_of upper.cell ≡ upper_half edge (region_of half.cell) → upper.from ≡ logs_along edge made half.from → upper.to ≡ half.to →
    upper.shared ≡ shared_along edge made middle → HasParts m lam upper
upper_parts m lam edge half upper made middle h cell from to shared = by_edge (edge == packing_edge) refl
  where
    r : Region
    r = region_of half.cell

    by_edge : (b : Bool) → (edge == packing_edge) ≡ b → HasParts m lam upper
    by_edge true e =
        let is : region_of upper.cell ≡ record r { ylo = cut r packing_edge } = rw e at cell in
        record {
          from = rw (ap (λ (s : Region). s.ylo) is, from, e) h.made_own.slopes.middle;
          to = rw (ap (λ (s : Region). s.yhi) is, to) h.parts.to;
          shared = rw (shared, e) (shared_compositions m lam r (region_of upper.cell) made middle (ap (λ (s : Region). s.lo) is) (ap (λ (s : Region). s.hi) is) h.made_own h.at h.point);
        }
    by_edge false e =
        let same = upper_packings edge r (region_of upper.cell) e cell in
        record {
          from = rw (same.0, from, e) h.parts.from;
          to = rw (same.1, to) h.parts.to;
          shared = rw (shared, e) (shared_packings m lam r (region_of upper.cell) made same.0 same.1 h.made_own);
        }
