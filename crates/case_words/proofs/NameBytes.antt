-- The bytes of a name, one more at a time.
use Rattle.std.proofs.Common.{◌≡◌, ℕ, ◌+◌, ◌<◌, ◌≤◌, List, [], ◌∷◌, ◌++◌, ap, sym, ◌∙◌, take, Bool, true, false, ◌&&◌, ◌||◌, refl, get_or, set, length, arith, below_more, nat_lt, nat_le, inl, inr}
use Rattle.std.specs.Prelude.{◌==◌, IsTrue, slice_index, Ok, Err}
use Rattle.std.specs.List.{list_all}
use Rattle.dec_text.specs.declared.faults.DecFault.TheVariants.{Empty, Digit}
use Rattle.case_words.specs.Names.{name_of}
use Rattle.std.proofs.lemmas.List.{get_or-set_same, get_or-set_other, take_more, take_more_set, take_all}
use Rattle.std.proofs.lemmas.Bool.{cases_lt, le-leb, lt-ltb}
use Rattle.case_types.specs.Ranges.{is_name, is_name_byte}
use Rattle.log_laws.proofs.Exports.{all_below-from}

-- each byte so far is as Q says, also after one more
pub each-more : (Q : ℕ → Type 0) (bytes : List ℕ) (i v : ℕ) → i < length bytes → Q v
    → ((k : ℕ) → k < i → Q (get_or bytes k 0)) → (k : ℕ) → k < i + 1 → Q (get_or (set bytes i v) k 0)
each-more Q bytes i v inside here before =
    below_more (λ (k : ℕ). Q (get_or (set bytes i v) k 0)) i
    (λ (k : ℕ) (h : k < i). rw (get_or-set_other bytes i k v 0 (λ e. omega arith)) (before k h))
    (rw (get_or-set_same bytes i v 0 inside) here)

-- the bytes after are 0, also after one more
pub rest-more : (bytes : List ℕ) (i v : ℕ) → ((k : ℕ) → i ≤ k → get_or bytes k 0 ≡ 0)
    → (k : ℕ) → i + 1 ≤ k → get_or (set bytes i v) k 0 ≡ 0
rest-more bytes i v rest k h = rw (get_or-set_other bytes i k v 0 (λ e. omega arith)) (rest k (omega arith))

-- one more byte of the text was copied
pub copied-more : (bytes text : List ℕ) (i : ℕ) → i < length bytes → i < length text
    → take i bytes ≡ take i text → take (i + 1) (set bytes i (get_or text i 0)) ≡ take (i + 1) text
copied-more bytes text i inside there same =
    take_more_set bytes i (get_or text i 0) inside
    ∙ ap (λ (t : List ℕ). t ++ get_or text i 0 ∷ []) same
    ∙ sym (take_more text i 0 there)

-- tests of three parts
first_pair : (a b c : Bool) → a ≡ true → b ≡ true → (a && b || c) ≡ true
first_pair a b c p q = rw (p, q) refl

last_pair : (a b c : Bool) → b ≡ true → c ≡ true → (a || b && c) ≡ true
last_pair a b c p q = rw (p, q) (elim a as (λ x. (x || true) ≡ true) [ true ↦ refl | false ↦ refl ])

-- bytes of names, and 0 after
pub is_name-each : (len : ℕ) (bytes : List ℕ) → ((k : ℕ) → k < len → IsTrue (is_name_byte (get_or bytes k 0)))
    → ((k : ℕ) → len ≤ k → get_or bytes k 0 ≡ 0) → IsTrue (is_name len bytes)
is_name-each len bytes spelled rest =
    all_below-from 16
    (λ (k : ℕ). nat_lt k len && is_name_byte (slice_index bytes k) || nat_le len k && slice_index bytes k == 0)
    (λ (k : ℕ) (l : k < 16). elim (cases_lt k len) [
      | inl h ↦ first_pair (nat_lt k len) (is_name_byte (slice_index bytes k)) (nat_le len k && slice_index bytes k == 0) (lt-ltb k len h) (spelled k h)
      | inr h ↦ last_pair (nat_lt k len && is_name_byte (slice_index bytes k)) (nat_le len k) (slice_index bytes k == 0) (le-leb len k h) (rw (rest k h) refl)
    ])

-- ---- a name, test by test
pub name-empty : (text : List ℕ) → (length text == 0) ≡ true → name_of text ≡ Err Empty
unfolding name_of
name-empty text a = rw a refl

pub name-digit : (text : List ℕ) → (length text == 0) ≡ false → (nat_le (length text) 16 && list_all is_name_byte text) ≡ false → name_of text ≡ Err Digit
unfolding name_of
name-digit text a b = rw (a, b) refl

pub name-good : (text bytes : List ℕ) (i : ℕ) → (length text == 0) ≡ false → (nat_le (length text) 16 && list_all is_name_byte text) ≡ true
    → i ≡ length text → take i bytes ≡ take i text → name_of text ≡ Ok (take (length text) bytes)
unfolding name_of
name-good text bytes i a b end copied =
    let whole : take (length text) bytes ≡ text = sym (ap (λ (n : ℕ). take n bytes) end) ∙ copied ∙ take_all i text (omega arith) in
    rw (a, b) (ap Ok (sym whole))
