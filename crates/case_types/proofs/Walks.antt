-- What holds of each visit of a walk.
use Rattle.std.proofs.Common.{◌≡◌, ℕ, ◌+◌, List, [], ◌∷◌, ◌++◌, cond}
use Rattle.std.proofs.lemmas.List.Sums.{sum_by-append}
use Rattle.case_types.specs.Grid.Cells.{Visit}
use Rattle.case_types.specs.Grid.Visits.{EachVisit, edges_in, is_edge_letter}

pub each-append : (P : Visit → Type 0) (us vs : List Visit) → EachVisit P us → EachVisit P vs → EachVisit P (us ++ vs)
each-append P [] vs h k = k
each-append P (u ∷ us) vs h k = (h.0, each-append P us vs h.1 k)

pub each-map : (P Q : Visit → Type 0) → ((v : Visit) → P v → Q v) → (vs : List Visit) → EachVisit P vs → EachVisit Q vs
each-map P Q f [] h = tt
each-map P Q f (v ∷ vs) h = (f v h.0, each-map P Q f vs h.1)

pub each-first : (P : Visit → Type 0) (us vs : List Visit) → EachVisit P (us ++ vs) → EachVisit P us × EachVisit P vs
each-first P [] vs h = (tt, h)
each-first P (u ∷ us) vs h = let k = each-first P us vs h.1 in ((h.0, k.0), k.1)

pub edges-append : (xs ys : List ℕ) → edges_in (xs ++ ys) ≡ edges_in xs + edges_in ys
edges-append xs ys = sum_by-append (λ y. cond (is_edge_letter y) 1 0) xs ys
