-- Signed numbers of small size, with a text's sign.
use Rattle.std.proofs.Common.{◌≡◌, ℕ, ◌^◌, ◌<◌, List, true, false, ℤ, pos, ◌-ℤ◌, arith, to_z, of_z, ap, ◌∙◌}
use Rattle.std.specs.Int.{w64, w128}
use Rattle.std.specs.Prelude.{Ok, None, Some, Option}
use Rattle.dec_text.specs.declared.faults.DecFault.{DecFault}
use Rattle.std.specs.Str.Parse.{digits_value}
use Rattle.std.proofs.lemmas.Int.{ints}
use Rattle.dec_text.specs.Decimals.{is_negative, signed_as, without_minus, whole_of, whole_fault_of, signed_decimal_of, fault_of, size_of, unless}

-- ---- 128 bits
pub negated : (text : List ℕ) (n : ℕ) → n < 2 ^ 126 → is_negative text ≡ true → to_z w128 (of_z w128 (pos 0 -ℤ to_z w128 n)) ≡ signed_as text n
negated text n small minus = rw minus (omega (arith, ints))

pub kept : (text : List ℕ) (n : ℕ) → n < 2 ^ 126 → is_negative text ≡ false → to_z w128 n ≡ signed_as text n
kept text n small minus = rw minus (omega (arith, ints))

-- ---- 64 bits
pub negated_short : (text : List ℕ) (n : ℕ) → n < 2 ^ 62 → is_negative text ≡ true → to_z w64 (of_z w64 (pos 0 -ℤ to_z w64 n)) ≡ signed_as text n
negated_short text n small minus = rw minus (omega (arith, ints))

pub kept_short : (text : List ℕ) (n : ℕ) → n < 2 ^ 62 → is_negative text ≡ false → to_z w64 n ≡ signed_as text n
kept_short text n small minus = rw minus (omega (arith, ints))

-- ---- good answers
pub whole-answer : (text : List ℕ) (n : ℕ) (v : ℤ) → whole_fault_of text ≡ None → n ≡ digits_value 10 (without_minus text) → v ≡ signed_as text n
    → Ok v ≡ whole_of text
whole-answer text n v none size is = rw none (ap Ok (is ∙ ap (signed_as text) size))

signed-from : (fault : Option DecFault) (m n : ℕ) (v : ℤ) (text : List ℕ) → Ok n ≡ unless fault m → v ≡ signed_as text n
    → Ok v ≡ unless fault (signed_as text m)
signed-from None m n v text e is =
    let same : n ≡ m = cc in
    ap Ok (is ∙ ap (signed_as text) same)
signed-from (Some fault) m n v text e is = absurd (cc)

pub signed-answer : (places max : ℕ) (text : List ℕ) (n : ℕ) (v : ℤ) → Ok n ≡ unless (fault_of true places max text) (size_of places text)
    → v ≡ signed_as text n → Ok v ≡ signed_decimal_of places max text
signed-answer places max text n v e is = signed-from (fault_of true places max text) (size_of places text) n v text e is
