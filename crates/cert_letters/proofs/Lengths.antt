-- How many letters a good tree has: one for each halving, and a leaf more than halvings.
use Rattle.std.proofs.Common.{◌≡◌, ℕ, zero, suc, ◌+◌, ◌*◌, ◌<◌, ◌≤◌, List, [], ◌∷◌, ◌++◌, length, refl, ap, subst, ◌∙◌, arith, inl, inr, Bool, true}
use Rattle.std.specs.Prelude.{◌⊎◌}
use Rattle.std.proofs.lemmas.List.{length-append, map-append}
use Rattle.case_types.specs.Grid.Cells.{Region, Tree, Leaf, Node, Mark, Misses, Plain, Sloped, Halves, Visit, visits, letter_of, letters_of, packing_edge, lower_half, upper_half}
use Rattle.case_types.specs.Grid.Visits.{edges_in, is_edge_letter}
use Rattle.case_types.proofs.Exports.{edges-append}
use Rattle.cert_letters.specs.Lines.{IsGoodTree}
use Rattle.cert_letters.specs.Steps.{IsEdgeOf}

is_edge : (n edge : ℕ) → n ≤ 4 → IsEdgeOf n edge → is_edge_letter (letter_of (Halves edge)) ≡ true
is_edge n zero few h = refl
is_edge n (suc zero) few h = refl
is_edge n (suc (suc zero)) few h = refl
is_edge n (suc (suc (suc zero))) few h = refl
is_edge n (suc (suc (suc (suc e)))) few (inl less) = absurd (omega (arith, few, less))
is_edge n (suc (suc (suc (suc e)))) few (inr own) = absurd (omega (arith, own))

edges_more : (letter : ℕ) (letters : List ℕ) → is_edge_letter letter ≡ true → edges_in (letter ∷ letters) ≡ edges_in letters + 1
edges_more letter letters e =
    let one : edges_in (letter ∷ []) ≡ 1 = rw e refl in
    omega (arith, edges-append (letter ∷ []) letters, one)

pub tree_length : (n : ℕ) (good : Region → Mark → Bool) (t : Tree) (r : Region) → n ≤ 4 → IsGoodTree n good t r →
    length (letters_of (visits t r)) ≡ 2 * edges_in (letters_of (visits t r)) + 1
unfolding visits IsGoodTree
tree_length n good (Leaf Misses) r few g = refl
tree_length n good (Leaf Plain) r few g = refl
tree_length n good (Leaf Sloped) r few g = refl
tree_length n good (Node edge lower upper) r few g =
    let xs : List ℕ = letters_of (visits lower (lower_half edge r)) in
    let ys : List ℕ = letters_of (visits upper (upper_half edge r)) in
    let x = tree_length n good lower (lower_half edge r) few g.2 in
    let y = tree_length n good upper (upper_half edge r) few g.3 in
    rw (
      map-append (λ (v : Visit). letter_of v.step) (visits lower (lower_half edge r)) (visits upper (upper_half edge r)),
      edges_more (letter_of (Halves edge)) (xs ++ ys) (is_edge n edge few g.0),
      edges-append xs ys,
      length-append xs ys,
    )
    (omega (arith, x, y))
