-- The items between commas, found one after the other.
use Rattle.std.proofs.Common.{◌≡◌, ℕ, ◌+◌, ◌<◌, ◌≤◌, List, [], ◌∷◌, length, get_or, drop, refl, ap, sym, ◌∙◌, arith, inl, inr}
use Rattle.std.specs.List.{position_or_len, before_first}
use Rattle.std.proofs.lemmas.Bool.{cases_lt}
use Rattle.std.proofs.lemmas.List.{drop-drop, get_or-drop, length-drop, take_all}
use Rattle.std.proofs.lemmas.List.Splits.{slice_split_first, slice_split_none}
use Rattle.std.proofs.lemmas.List.Sums.{fails_before_first}
use Rattle.case_words.specs.Items.{items_of, is_comma}

-- without a comma there is the one item
one_item : (rest : List ℕ) → length rest ≤ position_or_len is_comma rest → items_of rest ≡ rest ∷ []
one_item rest none = slice_split_none is_comma rest (λ (k d : ℕ) (h : k < length rest). fails_before_first is_comma rest k d (omega arith))

-- the first item
first_item : (rest : List ℕ) → get_or (items_of rest) 0 [] ≡ before_first is_comma rest
first_item rest = elim (cases_lt (position_or_len is_comma rest) (length rest)) [
  | inl h ↦ rw (slice_split_first is_comma rest 0 h) refl
  | inr h ↦ rw (one_item rest h) (sym (take_all (position_or_len is_comma rest) rest h))
]

-- where it isn't the last, a comma ends it, and the others stand behind
pub record GoesOn (rest : List ℕ) (others : List (List ℕ)) : Type 0 where
  pub comma : position_or_len is_comma rest < length rest
  pub behind_it : items_of (drop (position_or_len is_comma rest + 1) rest) ≡ others

pub goes_on : (rest : List ℕ) (all : List (List ℕ)) (k : ℕ) → items_of rest ≡ drop k all → k + 1 < length all → GoesOn rest (drop (k + 1) all)
goes_on rest all k here more = elim (cases_lt (position_or_len is_comma rest) (length rest)) [
  | inl h ↦ record {
    comma = h;
    behind_it =
        sym (ap (drop 1) (slice_split_first is_comma rest 0 h))
        ∙ ap (drop 1) here
        ∙ drop-drop 1 k all;
  }
  | inr h ↦
      let one : length (drop k all) ≡ 1 = sym (ap length here) ∙ ap length (one_item rest h) in
      absurd (omega (arith, length-drop k all))
]

-- the item at an index
pub item_here : (rest : List ℕ) (all : List (List ℕ)) (k : ℕ) → items_of rest ≡ drop k all → before_first is_comma rest ≡ get_or all k []
item_here rest all k here =
    sym (first_item rest)
    ∙ ap (λ (items : List (List ℕ)). get_or items 0 []) here
    ∙ get_or-drop k all 0 []
    ∙ ap (λ (n : ℕ). get_or all n []) (omega arith)
