-- Names that stand twice, found one after the other.
use Rattle.std.proofs.Common.{◌≡◌, ℕ, ◌+◌, ◌<◌, ◌≤◌, List, [], length, get_or, drop, refl, ap, ◌∙◌, sym, map, true, false}
use Rattle.case_types.specs.declared.cases.Name.{Name}
use Rattle.std.specs.Prelude.{Bool}
use Rattle.std.specs.List.{list_any}
use Rattle.std.specs.Str.{bytes_eq}
use Rattle.std.proofs.lemmas.List.{drop_more, drop_all, get_or-map}
use Rattle.case_words.specs.Names.{text_of, are_different}

-- ---- the test of each name against those behind it
pub no_repeat-more : (names : List (List ℕ)) (i : ℕ) → i < length names
    → list_any (bytes_eq (get_or names i [])) (drop (i + 1) names) ≡ false → are_different (drop i names) ≡ are_different (drop (i + 1) names)
unfolding are_different
no_repeat-more names i inside none = rw (drop_more names i [] inside, none) refl

pub repeat-here : (names : List (List ℕ)) (i : ℕ) → i < length names
    → list_any (bytes_eq (get_or names i [])) (drop (i + 1) names) ≡ true → are_different (drop i names) ≡ false
unfolding are_different
repeat-here names i inside some = rw (drop_more names i [] inside, some) refl

pub no_repeat-end : (names : List (List ℕ)) (i : ℕ) → length names ≤ i → are_different (drop i names) ≡ true
unfolding are_different
no_repeat-end names i end = rw (drop_all i names end) refl

-- ---- a test of the rest of a list
pub any-more : (p : List ℕ → Bool) (names : List (List ℕ)) (i : ℕ) → i < length names → p (get_or names i []) ≡ false
    → list_any p (drop i names) ≡ list_any p (drop (i + 1) names)
any-more p names i inside other = rw (drop_more names i [] inside, other) refl

pub any-here : (p : List ℕ → Bool) (names : List (List ℕ)) (i : ℕ) → i < length names → p (get_or names i []) ≡ true → list_any p (drop i names) ≡ true
any-here p names i inside same = rw (drop_more names i [] inside, same) refl

pub any-end : (p : List ℕ → Bool) (names : List (List ℕ)) (i : ℕ) → length names ≤ i → list_any p (drop i names) ≡ false
any-end p names i end = rw (drop_all i names end) refl

-- ---- the texts of names that were read
pub same_texts : (names : List Name) (i j : ℕ) (a b : Name) (s t : List ℕ) (r : Bool) → i < length names → j < length names
    → a ≡ get_or names i a → b ≡ get_or names j b → s ≡ text_of a → t ≡ text_of b → r ≡ bytes_eq s t
    → bytes_eq (get_or (map text_of names) i []) (get_or (map text_of names) j []) ≡ r
same_texts names i j a b s t r in_i in_j here there first second tested =
    ap (λ (x : List ℕ). bytes_eq x (get_or (map text_of names) j [])) (get_or-map text_of names i a [] in_i ∙ sym (ap text_of here) ∙ sym first)
    ∙ ap (bytes_eq s) (get_or-map text_of names j b [] in_j ∙ sym (ap text_of there) ∙ sym second)
    ∙ sym tested
