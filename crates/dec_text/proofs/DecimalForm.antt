-- The digits of a text that has the form of a decimal.
use Rattle.std.proofs.Common.{◌≡◌, ℕ, ◌+◌, ◌≤◌, List, ◌++◌, length, true, arith, inl, inr, ◌∙◌, not, ◌||◌, ◌<◌, ◌^◌, ◌≢◌, ap, if◌then◌else◌}
use Rattle.std.specs.Prelude.{◌==◌, nat_le, slice_index}
use Rattle.std.specs.List.{list_all, position_or_len}
use Rattle.std.specs.Char.{is_ascii_digit}
use Rattle.std.specs.Str.Parse.{digits_value, AllDigits}
use Rattle.std.proofs.lemmas.Bool.{and_parts, or_cases, leb-true, eqb-true}
use Rattle.std.proofs.lemmas.List.{drop_all, length-take, length-drop}
use Rattle.std.proofs.lemmas.Bool.Decides.{nat_tests}
use Rattle.dec_text.specs.Decimals.{is_decimal, is_unsigned_decimal, are_digits, is_point, whole_part, places_part, without_minus, is_negative, filled, size_of, is_whole}
use Rattle.dec_text.proofs.Digits.{digits-from_test, long_number}

pub digits-from_are_digits : (ds : List ℕ) → are_digits ds ≡ true → AllDigits 10 ds
digits-from_are_digits ds e = digits-from_test ds (and_parts (not (length ds == 0)) (list_all is_ascii_digit ds) e).1

-- the digits before the point, those after it, and how many stand before it
pub record HasDigits (text : List ℕ) : Type 0 where
  pub whole : AllDigits 10 (whole_part (without_minus text))
  pub places : AllDigits 10 (places_part (without_minus text))
  pub short : length (whole_part (without_minus text)) ≤ 24

places-digits : (text : List ℕ) → (position_or_len is_point text == length text || are_digits (places_part text)) ≡ true → AllDigits 10 (places_part text)
places-digits text e = elim (or_cases (position_or_len is_point text == length text) (are_digits (places_part text)) e) [
  | inl h ↦
      let end : position_or_len is_point text ≡ length text = eqb-true (position_or_len is_point text) (length text) h in
      rw (drop_all (position_or_len is_point text + 1) text (omega arith)) tt
  | inr h ↦ digits-from_are_digits (places_part text) h
]

pub digits-from_decimal : (text : List ℕ) → is_decimal text ≡ true → HasDigits text
digits-from_decimal text e =
    let parts = and_parts (nat_le (length text) 24) (is_unsigned_decimal (without_minus text)) e in
    let form = and_parts (are_digits (whole_part (without_minus text)))
    (position_or_len is_point (without_minus text) == length (without_minus text) || are_digits (places_part (without_minus text))) parts.1 in
    let few : length text ≤ 24 = leb-true (length text) 24 parts.0 in
    record {
      whole = digits-from_are_digits (whole_part (without_minus text)) form.0;
      places = places-digits (without_minus text) form.1;
      short = rw (length-take (position_or_len is_point (without_minus text)) (without_minus text)) (omega (arith, length-drop {A = ℕ}));
    }

pub digits-from_whole : (text : List ℕ) → is_whole text ≡ true → AllDigits 10 (without_minus text)
digits-from_whole text e =
    digits-from_are_digits (without_minus text) (and_parts (are_digits (without_minus text)) (not (slice_index (without_minus text) 0 == 48) || length text == 1) e).0

-- a long one is large
not-both : (b : ℕ) → b ≡ 48 → not (b == 48) ≡ true → ⊥
not-both b k h = grind (arith, nat_tests)

first-of_long : (text : List ℕ) → (not (slice_index (without_minus text) 0 == 48) || length text == 1) ≡ true → 38 < length (without_minus text)
    → slice_index (without_minus text) 0 ≢ 48
first-of_long text e long = elim (or_cases (not (slice_index (without_minus text) 0 == 48)) (length text == 1) e) [
  | inl h ↦ λ (k : slice_index (without_minus text) 0 ≡ 48). not-both (slice_index (without_minus text) 0) k h
  | inr h ↦
      let one : length text ≡ 1 = eqb-true (length text) 1 h in
      absurd (omega (arith, length-drop (if is_negative text then 1 else 0) text))
]

pub whole-long : (text : List ℕ) → is_whole text ≡ true → 38 < length (without_minus text) → 2 ^ 126 ≤ digits_value 10 (without_minus text)
whole-long text e long =
    let parts = and_parts (are_digits (without_minus text)) (not (slice_index (without_minus text) 0 == 48) || length text == 1) e in
    long_number (without_minus text) (digits-from_whole text e) (first-of_long text parts.1 long) long

-- the number that was written is the size
pub written : (places : ℕ) (text unsigned digits others : List ℕ) (n : ℕ) → unsigned ≡ without_minus text → digits ≡ whole_part unsigned
    → others ≡ places_part unsigned → n ≡ digits_value 10 (digits ++ filled places others) → n ≡ size_of places text
unfolding size_of
written places text unsigned digits others n u d o e =
    e ∙ ap (λ (ds : List ℕ). digits_value 10 (ds ++ filled places others)) (d ∙ ap whole_part u)
    ∙ ap (λ (ds : List ℕ). digits_value 10 (whole_part (without_minus text) ++ filled places ds)) (o ∙ ap places_part u)
