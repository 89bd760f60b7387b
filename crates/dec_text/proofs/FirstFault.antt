-- The first fault, test by test.
use Rattle.std.proofs.Common.{◌≡◌, ℕ, List, length, Bool, true, false, refl, ◌^◌}
use Rattle.std.specs.Prelude.{Some, None, ◌==◌, nat_lt, nat_le}
use Rattle.std.specs.Str.Parse.{digits_value}
use Rattle.dec_text.specs.declared.faults.DecFault.TheVariants.{Empty, Sign, Digit, Places, TooLarge}
use Rattle.dec_text.specs.Decimals.{fault_of, whole_fault_of, has_wrong_sign, is_decimal, has_more_places, size_of, is_whole, without_minus}

-- ---- decimals
pub fault-empty : (signed : Bool) (places max : ℕ) (text : List ℕ) → (length text == 0) ≡ true → fault_of signed places max text ≡ Some Empty
unfolding fault_of
fault-empty signed places max text a = rw a refl

pub fault-sign : (signed : Bool) (places max : ℕ) (text : List ℕ) → (length text == 0) ≡ false → has_wrong_sign signed text ≡ true
    → fault_of signed places max text ≡ Some Sign
unfolding fault_of
fault-sign signed places max text a b = rw (a, b) refl

pub fault-digit : (signed : Bool) (places max : ℕ) (text : List ℕ) → (length text == 0) ≡ false → has_wrong_sign signed text ≡ false
    → is_decimal text ≡ false → fault_of signed places max text ≡ Some Digit
unfolding fault_of
fault-digit signed places max text a b d = rw (a, b, d) refl

pub fault-places : (signed : Bool) (places max : ℕ) (text : List ℕ) → (length text == 0) ≡ false → has_wrong_sign signed text ≡ false
    → is_decimal text ≡ true → has_more_places places text ≡ true → fault_of signed places max text ≡ Some Places
unfolding fault_of
fault-places signed places max text a b d e = rw (a, b, d, e) refl

pub fault-large : (signed : Bool) (places max : ℕ) (text : List ℕ) → (length text == 0) ≡ false → has_wrong_sign signed text ≡ false
    → is_decimal text ≡ true → has_more_places places text ≡ false → nat_lt max (size_of places text) ≡ true
    → fault_of signed places max text ≡ Some TooLarge
unfolding fault_of
fault-large signed places max text a b d e f = rw (a, b, d, e, f) refl

pub fault-none : (signed : Bool) (places max : ℕ) (text : List ℕ) → (length text == 0) ≡ false → has_wrong_sign signed text ≡ false
    → is_decimal text ≡ true → has_more_places places text ≡ false → nat_lt max (size_of places text) ≡ false
    → fault_of signed places max text ≡ None
unfolding fault_of
fault-none signed places max text a b d e f = rw (a, b, d, e, f) refl

-- ---- whole numbers of one spelling
pub whole-empty : (text : List ℕ) → (length text == 0) ≡ true → whole_fault_of text ≡ Some Empty
unfolding whole_fault_of
whole-empty text a = rw a refl

pub whole-digit : (text : List ℕ) → (length text == 0) ≡ false → is_whole text ≡ false → whole_fault_of text ≡ Some Digit
unfolding whole_fault_of
whole-digit text a b = rw (a, b) refl

pub whole-large : (text : List ℕ) → (length text == 0) ≡ false → is_whole text ≡ true
    → nat_le (2 ^ 126) (digits_value 10 (without_minus text)) ≡ true → whole_fault_of text ≡ Some TooLarge
unfolding whole_fault_of
whole-large text a b d = rw (a, b, d) refl

pub whole-none : (text : List ℕ) → (length text == 0) ≡ false → is_whole text ≡ true
    → nat_le (2 ^ 126) (digits_value 10 (without_minus text)) ≡ false → whole_fault_of text ≡ None
unfolding whole_fault_of
whole-none text a b d = rw (a, b, d) refl
