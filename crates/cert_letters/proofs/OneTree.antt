-- Letters write one tree alone.
use Rattle.std.proofs.Common.{◌≡◌, ℕ, ◌≤◌, List, ◌++◌, get_or, drop, sym, ap, subst, ◌∙◌, append_assoc, Some, Bool}
use Rattle.std.proofs.lemmas.List.{map-append}
use Rattle.case_types.specs.Grid.Cells.{Region, Tree, Leaf, Node, Mark, Step, Ends, Halves, Visit, visits, letter_of, letters_of, lower_half, upper_half}
use Rattle.cert_letters.specs.Steps.{step_of}
use Rattle.cert_letters.specs.Lines.{IsGoodTree}
use Rattle.cert_letters.proofs.Steps.{IsStepOf, step_again}

same_step : (n : ℕ) (s t : Step) → n ≤ 4 → IsStepOf n s → IsStepOf n t → letter_of s ≡ letter_of t → s ≡ t
same_step n s t few h k e = some_is s t (sym (step_again n s few h) ∙ ap (step_of n) e ∙ step_again n t few k)
  where
    some_is : (s t : Step) → Some s ≡ Some t → s ≡ t
    some_is s t e = cc

same_mark : (m k : Mark) → Ends m ≡ Ends k → m ≡ k
same_mark m k e = cc

same_edge : (e f : ℕ) → Halves e ≡ Halves f → e ≡ f
same_edge e f h = cc

not_both : (m : Mark) (e : ℕ) → Ends m ≡ Halves e → ⊥
not_both m e h = cc

-- the letters behind the first
behind_node : (e : ℕ) (lower upper : Tree) (c : Region) (x : List ℕ) → drop 1 (letters_of (visits (Node e lower upper) c) ++ x)
    ≡ letters_of (visits lower (lower_half e c)) ++ (letters_of (visits upper (upper_half e c)) ++ x)
unfolding visits
behind_node e lower upper c x =
    ap (λ (t : List ℕ). t ++ x) (map-append (λ (v : Visit). letter_of v.step) (visits lower (lower_half e c)) (visits upper (upper_half e c)))
    ∙ append_assoc (letters_of (visits lower (lower_half e c))) (letters_of (visits upper (upper_half e c))) x

pub one_tree : (n : ℕ) (good : Region → Mark → Bool) (t u : Tree) (c : Region) (x y : List ℕ) → n ≤ 4 → IsGoodTree n good t c → IsGoodTree n good u c
    → letters_of (visits t c) ++ x ≡ letters_of (visits u c) ++ y → (t ≡ u) × (x ≡ y)
unfolding visits IsGoodTree
one_tree n good (Leaf m) (Leaf k) c x y few g h e =
    let first = same_mark m k (same_step n (Ends m) (Ends k) few tt tt (ap (λ (l : List ℕ). get_or l 0 0) e)) in
    (ap Leaf first, ap (λ (l : List ℕ). drop 1 l) e)
one_tree n good (Leaf m) (Node f lower upper) c x y few g h e =
    absurd (not_both m f (same_step n (Ends m) (Halves f) few tt h.0 (ap (λ (l : List ℕ). get_or l 0 0) e)))
one_tree n good (Node f lower upper) (Leaf m) c x y few g h e =
    absurd (not_both m f (sym (same_step n (Halves f) (Ends m) few g.0 tt (ap (λ (l : List ℕ). get_or l 0 0) e))))
one_tree n good (Node f lower upper) (Node k low up) c x y few g h e =
    let edge : f ≡ k = same_edge f k (same_step n (Halves f) (Halves k) few g.0 h.0 (ap (λ (l : List ℕ). get_or l 0 0) e)) in
    let tails : letters_of (visits lower (lower_half f c)) ++ (letters_of (visits upper (upper_half f c)) ++ x) ≡ letters_of (visits low (lower_half k c)) ++ (letters_of (visits up (upper_half k c)) ++ y) =
    sym (behind_node f lower upper c x) ∙ ap (λ (l : List ℕ). drop 1 l) e ∙ behind_node k low up c y in
    let again = subst (λ (j : ℕ). letters_of (visits lower (lower_half f c)) ++ (letters_of (visits upper (upper_half f c)) ++ x) ≡ letters_of (visits low (lower_half j c)) ++ (letters_of (visits up (upper_half j c)) ++ y)) (sym edge) tails in
    let first = one_tree n good lower low (lower_half f c) _ _ few g.2 (subst (λ (j : ℕ). IsGoodTree n good low (lower_half j c)) (sym edge) h.2) again in
    let second = one_tree n good upper up (upper_half f c) x y few g.3 (subst (λ (j : ℕ). IsGoodTree n good up (upper_half j c)) (sym edge) h.3) first.1 in
    (ap (λ (j : ℕ). Node j lower upper) edge ∙ ap (λ (l : Tree). Node k l upper) first.0 ∙ ap (λ (l : Tree). Node k low l) second.0, second.1)
