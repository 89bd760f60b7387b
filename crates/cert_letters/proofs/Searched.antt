-- The letters of a search that ends with a low are those of a good tree.
use Rattle.std.proofs.Common.{◌≡◌, ℕ, zero, suc, ◌*◌, ◌^◌, ◌-◌, ◌/◌, ◌+◌, ◌<◌, ◌≤◌, List, [], ◌∷◌, ◌++◌, map, refl, sym, ap, subst, ◌∙◌, arith, inl, inr, Bool, true, false, not, Option, Some, None, ℤ, ◌≤ℤ◌, IsTrue, IsFalse}
use Rattle.std.specs.Prelude.{◌⊎◌, ◌==◌, ◌&&◌, if◌then◌else◌, slice_set, cond, nat_le, int_le, int_lt}
use Rattle.std.proofs.lemmas.Bool.{le-leb, leb-true, eqb-true}
use Rattle.log_laws.specs.Sums.{all_below}
use Rattle.case_types.specs.Grid.Cells.{Region, Tree, Leaf, Node, Mark, Misses, Plain, Sloped, Step, Ends, Halves, Visit, visits, letters_of, misses, edge_length, edge_to_halve, is_unit, packing_edge, widest_below, root_region, lower_half, upper_half, cut, HasLow}
use Rattle.case_types.specs.Grid.Visits.{HasUnitEdge, EachVisit}
use Rattle.case_types.proofs.Exports.{each-append, each-map, each-first}
use Rattle.density_boxes.proofs.Widest.{wide_fraction}
use Rattle.energy_surface.specs.declared.found.Found.{Found}
use Rattle.energy_surface.specs.Searches.{IsSearched, low_of, HasStepCause, IsStepOver, HasLeastLow, left_visit, left_mark, mark_by, closing}
use Rattle.energy_surface.specs.Surfaces.{Surface, Under, under, low_by, plain_low, slope_low}
use Rattle.cert_letters.specs.Bounds.{leaf_test, is_low_above}
use Rattle.cert_letters.specs.Lines.{IsGoodTree}
use Rattle.cert_letters.specs.Searched.{AreOfTree, SearchesWriteTrees}
use Rattle.cert_letters.specs.Steps.{IsEdgeOf, can_halve}

-- ---- an edge that is halved
at_least_two : (n : ℕ) (r : Region) (edge : ℕ) → 1 ≤ edge_length r edge → (IsTrue (is_unit r edge) → ⊥) → can_halve r edge ≡ true
at_least_two n r edge some wide = le-leb 2 (edge_length r edge) (two (edge_length r edge) some wide)
  where
    two : (k : ℕ) → 1 ≤ k → (IsTrue (k == 1) → ⊥) → 2 ≤ k
    two zero some wide = absurd (omega (arith, some))
    two (suc zero) some wide = absurd (wide refl)
    two (suc (suc k)) some wide = omega arith

halved : (n : ℕ) (r : Region) (edge : ℕ) → 1 ≤ edge_length r packing_edge → edge ≡ edge_to_halve n r → (HasUnitEdge n r → ⊥) → IsEdgeOf n edge × (can_halve r edge ≡ true)
unfolding edge_to_halve
halved n r edge some is wide = by_test (all_below (n - 1) (λ i. nat_le (edge_length r i * 2 ^ 20) (4 * edge_length r packing_edge))) refl
  where
    by_test : (b : Bool) → all_below (n - 1) (λ i. nat_le (edge_length r i * 2 ^ 20) (4 * edge_length r packing_edge)) ≡ b → IsEdgeOf n edge × (can_halve r edge ≡ true)
    by_test true e =
        let own : edge ≡ packing_edge = is ∙ rw e refl in
        (inr own, rw own (at_least_two n r packing_edge some (λ t. wide (rw e t))))
    by_test false e =
        let f = wide_fraction r (n - 1) some e in
        let own : edge ≡ widest_below r (n - 1) = is ∙ rw e refl in
        (inl (rw own f.0), rw own (at_least_two n r (widest_below r (n - 1)) f.1 (λ t. wide (rw e t))))

-- ---- a step of the tree
-- a cell is a leaf that misses by `m` alone, and an edge is the one that is to be halved
abbrev IsSound : ℕ → Region → Step → Type 0
IsSound n r (Ends Misses) = IsTrue (misses n r)
IsSound n r (Ends Plain) = IsFalse (misses n r)
IsSound n r (Ends Sloped) = IsFalse (misses n r)
IsSound n r (Halves edge) = (edge ≡ edge_to_halve n r) × (HasUnitEdge n r → ⊥)

caused_sound : (u : Under) (r : Region) (step : Step) → HasStepCause u r step → IsSound u.surface.count r step
caused_sound u r (Ends Misses) h = h
caused_sound u r (Ends Plain) h = h.0
caused_sound u r (Ends Sloped) h = h.0
caused_sound u r (Halves edge) h = (h.2, h.1)

left_sound : (s : Surface) (lam : List ℤ) (r : Region) → IsSound s.count r (Ends (left_mark s lam r))
left_sound s lam r = by_test (misses s.count r) refl
  where
    by_low : (o : Option ℤ) → misses s.count r ≡ false → IsSound s.count r (Ends (mark_by (plain_low s lam r) o))
    by_low None e = rw e refl
    by_low (Some l) e = by_order (int_lt (plain_low s lam r) l) e
      where
        by_order : (b : Bool) → misses s.count r ≡ false → IsSound s.count r (Ends (cond b Sloped Plain))
        by_order true e = rw e refl
        by_order false e = rw e refl

    by_test : (b : Bool) → misses s.count r ≡ b → IsSound s.count r (Ends (cond b Misses (mark_by (plain_low s lam r) (slope_low s lam r))))
    by_test true e = rw e refl
    by_test false e = by_low (slope_low s lam r) e

lefts_sound : (s : Surface) (lam : List ℤ) (rs : List Region) → EachVisit (λ (v : Visit). IsSound s.count v.region v.step) (map (left_visit s lam) rs)
lefts_sound s lam [] = tt
lefts_sound s lam (r ∷ rs) = (left_sound s lam r, lefts_sound s lam rs)

-- ---- the tree
passed : (low : ℤ) (b : Bool) (o : Option ℤ) → IsFalse b → HasLow low o → IsTrue (not b && is_low_above low o)
passed low b None meets h = absurd h
passed low b (Some l) meets h = rw (meets, above low l h) refl
  where
    above : (a b : ℤ) → a ≤ℤ b → int_le a b ≡ true
    above a b h = grind arith

leaf_good : (s : Surface) (lam : List ℤ) (low : ℤ) (r : Region) (mark : Mark) → IsSound s.count r (Ends mark) → IsStepOver s lam low r (Ends mark) → IsTrue (leaf_test s lam low r mark)
unfolding leaf_test
leaf_good s lam low r Misses h k = h
leaf_good s lam low r Plain h k = passed low (misses s.count r) (low_by s lam r Plain) h k
leaf_good s lam low r Sloped h k = passed low (misses s.count r) (low_by s lam r Sloped) h k

-- half of two units of packing or more has one
lower_some : (r : Region) (edge : ℕ) → 1 ≤ edge_length r packing_edge → can_halve r edge ≡ true → 1 ≤ edge_length (lower_half edge r) packing_edge
lower_some r edge some wide = by_test (edge == packing_edge) refl
  where
    by_test : (b : Bool) → (edge == packing_edge) ≡ b → 1 ≤ edge_length (if b then record r { yhi = cut r edge } else record r { hi = slice_set r.hi edge (cut r edge) }) packing_edge
    by_test true e =
        let own : edge ≡ packing_edge = eqb-true edge packing_edge e in
        let two : 2 ≤ edge_length r packing_edge = leb-true 2 (edge_length r packing_edge) (rw own at wide) in
        rw own (omega (arith, two))
    by_test false e = some

upper_some : (r : Region) (edge : ℕ) → 1 ≤ edge_length r packing_edge → can_halve r edge ≡ true → 1 ≤ edge_length (upper_half edge r) packing_edge
upper_some r edge some wide = by_test (edge == packing_edge) refl
  where
    by_test : (b : Bool) → (edge == packing_edge) ≡ b → 1 ≤ edge_length (if b then record r { ylo = cut r edge } else record r { lo = slice_set r.lo edge (cut r edge) }) packing_edge
    by_test true e =
        let own : edge ≡ packing_edge = eqb-true edge packing_edge e in
        let two : 2 ≤ edge_length r packing_edge = leb-true 2 (edge_length r packing_edge) (rw own at wide) in
        rw own (omega (arith, two))
    by_test false e = some

tree_good : (s : Surface) (lam : List ℤ) (low : ℤ) (t : Tree) (r : Region) → 1 ≤ edge_length r packing_edge →
    EachVisit (λ (v : Visit). IsSound s.count v.region v.step) (visits t r) → EachVisit (λ (v : Visit). IsStepOver s lam low v.region v.step) (visits t r) →
    IsGoodTree s.count (leaf_test s lam low) t r
unfolding visits IsGoodTree
tree_good s lam low (Leaf mark) r some h k = leaf_good s lam low r mark h.0 k.0
tree_good s lam low (Node edge lower upper) r some h k =
    let e = halved s.count r edge some h.0.0 h.0.1 in
    let hs = each-first (λ (v : Visit). IsSound s.count v.region v.step) (visits lower (lower_half edge r)) (visits upper (upper_half edge r)) h.1 in
    let ks = each-first (λ (v : Visit). IsStepOver s lam low v.region v.step) (visits lower (lower_half edge r)) (visits upper (upper_half edge r)) k.1 in (
      e.0,
      e.1,
      tree_good s lam low lower (lower_half edge r) (lower_some r edge some e.1) hs.0 ks.0,
      tree_good s lam low upper (upper_half edge r) (upper_some r edge some e.1) hs.1 ks.1,
    )

pub searches_write_trees : SearchesWriteTrees
searches_write_trees s lam delta low found letters few is searched =
    let u = under s lam delta in
    let sound = each-append (λ (v : Visit). IsSound s.count v.region v.step) searched.before (map (left_visit s lam) searched.left)
    (each-map (λ (v : Visit). HasStepCause u v.region v.step) (λ (v : Visit). IsSound s.count v.region v.step) (λ v h. caused_sound u v.region v.step h) searched.before searched.caused)
    (lefts_sound s lam searched.left) in
    let least = subst (λ (o : Option ℤ). HasLeastLow s lam o (visits searched.tree (root_region s.count))) is searched.low in
    record {
      tree = searched.tree;
      good =
          tree_good s lam low searched.tree (root_region s.count) (omega arith)
          (subst (λ (vs : List Visit). EachVisit (λ (v : Visit). IsSound s.count v.region v.step) vs) (sym searched.preorder) sound) least.over;
      written =
          searched.written
          ∙ ap (λ (o : Option ℤ). letters_of (searched.before ++ closing s lam o searched.left)) is
          ∙ ap letters_of (sym searched.preorder);
    }
