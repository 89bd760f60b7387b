-- Digits and the numbers that they write.
use Rattle.std.proofs.Common.{◌≡◌, ℕ, ◌+◌, ◌-◌, ◌*◌, ◌^◌, ◌<◌, ◌≤◌, List, [], ◌∷◌, ◌++◌, length, get_or, take, refl, true, arith, inl, inr, ◌∙◌, sym, ap, replicate, add-one, append_assoc, ◌≢◌}
use Rattle.std.specs.Prelude.{nat_le}
use Rattle.std.specs.List.{list_all}
use Rattle.std.specs.Char.{is_ascii_digit, digit_value}
use Rattle.std.specs.Int.{IsInRange}
use Rattle.std.specs.Str.Parse.{digits_value, digits_value_after, AllDigits}
use Rattle.std.proofs.lemmas.Int.Digits.{digits_value_more, digits_value_push, digits_value-lt}
use Rattle.std.proofs.lemmas.Str.{digit_value_digit}
use Rattle.std.proofs.lemmas.Str.Parse.{digit_at, digit_from_value, digits_value-take-le}
use Rattle.std.proofs.lemmas.Bool.{and_parts, leb-true, cases_lt}
use Rattle.std.proofs.lemmas.List.{get_or_append_left, get_or-append_right, get_or-replicate, get_or_past, get_or_default, take_more, length-append, length-replicate}
use Rattle.std.proofs.Math.Nat.{pow-le-pow_right, pow-suc, mul-le-mul_right}

-- the number so far, with one more digit
pub next_number : (ds : List ℕ) (i n : ℕ) → AllDigits 10 ds → i < length ds → n ≡ digits_value 10 (take i ds)
    → n * 10 + (get_or ds i 0 - 48) ≡ digits_value 10 (take (i + 1) ds)
next_number ds i n all inside so_far =
    let here : IsInRange 48 57 (get_or ds i 0) = digit_at ds i all inside in
    let value : digit_value (get_or ds i 0) + 48 ≡ get_or ds i 0 = digit_value_digit (get_or ds i 0) here in
    omega (arith, digits_value_more 10 ds i inside, value, here, so_far)

-- it stays below the power of ten
pub number_below : (ds : List ℕ) (i : ℕ) → AllDigits 10 ds → length ds ≤ 38 → digits_value 10 (take i ds) < 10 ^ 38
number_below ds i all short =
    let ten : 0 < 10 = omega arith in
    omega (arith, digits_value-take-le 10 ds i ten, digits_value-lt 10 ds all, pow-le-pow_right {n = 10} ten {i = length ds} {j = 38} short)

-- a test of each byte is a fact on each digit
digit-from_test : (c : ℕ) → is_ascii_digit c ≡ true → digit_value c < 10
digit-from_test c e =
    let parts = and_parts (nat_le 48 c) (nat_le c 57) e in
    let low : 48 ≤ c = leb-true 48 c parts.0 in
    let high : c ≤ 57 = leb-true c 57 parts.1 in
    omega (arith, digit_value_digit c (low, high))

pub digits-from_test : (ds : List ℕ) → list_all is_ascii_digit ds ≡ true → AllDigits 10 ds
digits-from_test [] all = tt
digits-from_test (c ∷ cs) all =
    let parts = and_parts (is_ascii_digit c) (list_all is_ascii_digit cs) all in
    (digit-from_test c parts.0, digits-from_test cs parts.1)

-- the digit at a place, or `0` past the end, is the one of the filled digits
pub get_or-filled : (ds : List ℕ) (places i : ℕ) → i < places → get_or (ds ++ replicate places 48) i 48 ≡ get_or ds i 48
get_or-filled ds places i inside = elim (cases_lt i (length ds)) [
  | inl h ↦ get_or_append_left ds (replicate places 48) 48 i h
  | inr h ↦
      let there : i - length ds < places = omega arith in
      get_or-append_right ds (replicate places 48) (length ds) i 48 refl h
      ∙ get_or-replicate places (i - length ds) 48 48 there
      ∙ sym (get_or_past ds i 48 h)
]

-- a digit, or `0` past the end
pub digit_or_zero_is_digit : (ds : List ℕ) (i : ℕ) → AllDigits 10 ds → IsInRange 48 57 (get_or ds i 48)
digit_or_zero_is_digit ds i all = elim (cases_lt i (length ds)) [
  | inl h ↦ rw (get_or_default ds i 48 0 h) (digit_at ds i all h)
  | inr h ↦ rw (get_or_past ds i 48 h) (omega arith, omega arith)
]

-- the number so far, with one more of the filled digits
pub next_filled : (digits ds : List ℕ) (places i n : ℕ) → AllDigits 10 ds → i < places
    → n ≡ digits_value 10 (digits ++ take i (ds ++ replicate places 48))
    → n * 10 + (get_or ds i 48 - 48) ≡ digits_value 10 (digits ++ take (i + 1) (ds ++ replicate places 48))
next_filled digits ds places i n all inside so_far =
    let here : IsInRange 48 57 (get_or ds i 48) = digit_or_zero_is_digit ds i all in
    let value : digit_value (get_or ds i 48) + 48 ≡ get_or ds i 48 = digit_value_digit (get_or ds i 48) here in
    let long : i < length (ds ++ replicate places 48) = rw (length-append, length-replicate) (omega arith) in
    let more : take (i + 1) (ds ++ replicate places 48) ≡ take i (ds ++ replicate places 48) ++ get_or ds i 48 ∷ [] =
    take_more (ds ++ replicate places 48) i 48 long
    ∙ ap (λ (b : ℕ). take i (ds ++ replicate places 48) ++ b ∷ []) (get_or-filled ds places i inside) in
    rw (
      more,
      ← append_assoc digits (take i (ds ++ replicate places 48)) (get_or ds i 48 ∷ []),
      digits_value_push 10 (digits ++ take i (ds ++ replicate places 48)) (get_or ds i 48),
    )
    (omega (arith, value, here, so_far))

-- a digit more is a power of ten more
pub power-more : (n d k : ℕ) → n < 10 ^ k → d ≤ 9 → n * 10 + d < 10 ^ (k + 1)
power-more n d k below digit = rw (add-one, pow-suc) (omega arith)

pub power-small : (n k : ℕ) → n < 10 ^ k → k ≤ 38 → n < 10 ^ 38
power-small n k below short =
    let ten : 0 < 10 = omega arith in
    omega (arith, below, pow-le-pow_right {n = 10} ten {i = k} {j = 38} short)

-- digits of which the first isn't `0` write a number of their length
number_after-at_least : (n : ℕ) (ds : List ℕ) → n * 10 ^ length ds ≤ digits_value_after 10 n ds
number_after-at_least n [] = omega arith
number_after-at_least n (c ∷ cs) =
    rw (pow-suc) (omega (arith, number_after-at_least (n * 10 + digit_value c) cs))

pub long_number : (ds : List ℕ) → AllDigits 10 ds → get_or ds 0 0 ≢ 48 → 38 < length ds → 2 ^ 126 ≤ digits_value 10 ds
long_number [] all first long = absurd (omega arith)
long_number (c ∷ cs) all first long =
    let here : IsInRange 48 57 c = digit_from_value c all.0 in
    let value : digit_value c + 48 ≡ c = digit_value_digit c here in
    let some : 1 ≤ digit_value c = omega arith in
    let ten : 0 < 10 = omega arith in
    let many : 10 ^ 38 ≤ 10 ^ length cs = pow-le-pow_right {n = 10} ten {i = 38} {j = length cs} (omega arith) in
    omega (arith, number_after-at_least (0 * 10 + digit_value c) cs, mul-le-mul_right (10 ^ length cs) some)
