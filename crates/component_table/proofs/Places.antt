-- Where a component with a name stands.
use Rattle.std.proofs.Common.{◌≡◌, ℕ, ◌+◌, ◌<◌, ◌≤◌, List, length, get_or, drop, map, Bool, true, false, ap, sym, ◌∙◌, arith}
use Rattle.std.specs.List.{position_or_len}
use Rattle.std.specs.Str.{bytes_eq}
use Rattle.std.proofs.lemmas.List.{drop_more, drop_all, get_or-map}
use Rattle.case_types.specs.declared.cases.Row.{Row}
use Rattle.case_words.specs.Names.{text_of}
use Rattle.component_table.specs.Tables.{has_name}
use Rattle.component_table.specs.Rows.{plain_row}

-- ---- the first item that passes, item by item
pub position-more : {X : Type 0} (p : X → Bool) (xs : List X) (i : ℕ) (d : X) → i < length xs → p (get_or xs i d) ≡ false
    → i + position_or_len p (drop i xs) ≡ i + 1 + position_or_len p (drop (i + 1) xs)
position-more p xs i d inside other = rw (drop_more xs i d inside, other) (omega arith)

pub position-here : {X : Type 0} (p : X → Bool) (xs : List X) (i : ℕ) (d : X) → i < length xs → p (get_or xs i d) ≡ true
    → i + position_or_len p (drop i xs) ≡ i
position-here p xs i d inside same = rw (drop_more xs i d inside, same) (omega arith)

pub position-end : {X : Type 0} (p : X → Bool) (xs : List X) (i : ℕ) → length xs ≤ i → i + position_or_len p (drop i xs) ≡ i
position-end p xs i end = rw (drop_all i xs end) (omega arith)

-- ---- the component at an index has the name, or hasn't
pub row-here : (comps : List Row) (i : ℕ) (a : Row) (name s t : List ℕ) (r : Bool) → i < length comps
    → s ≡ text_of (get_or comps i a).name → t ≡ name → r ≡ bytes_eq s t → has_name name (get_or (map plain_row comps) i (plain_row a)) ≡ r
row-here comps i a name s t r inside is are tested =
    ap (has_name name) (get_or-map plain_row comps i a (plain_row a) inside)
    ∙ ap (λ (x : List ℕ). bytes_eq x name) (sym is)
    ∙ ap (bytes_eq s) (sym are)
    ∙ sym tested
