-- What a decimal is: its number, and the first fault of a text that is none.
use Rattle.std.specs.Prelude.{ℕ, ◌^◌, List, ◌++◌, length, take, drop, replicate, slice_index, Bool, true, false, not, ◌&&◌, ◌||◌, ◌==◌, nat_le, nat_lt, if◌then◌else◌, ℤ, pos, neg_ℤ, Option, Some, None, Result, Ok, Err}
use Rattle.std.specs.List.{position_or_len, before_first, after_first, list_all}
use Rattle.std.specs.Char.{is_ascii_digit}
use Rattle.std.specs.Str.Parse.{digits_value}
use Rattle.dec_text.specs.declared.faults.DecFault.{DecFault}
use Rattle.dec_text.specs.declared.faults.DecFault.TheVariants.{Empty, Sign, Digit, Places, TooLarge}

-- ---- signs
-- the text begins with `-`
abbrev pub is_negative : List ℕ → Bool
is_negative text = slice_index text 0 == 45

-- what follows the `-`, if there is one
abbrev pub without_minus : List ℕ → List ℕ
without_minus text = drop (if is_negative text then 1 else 0) text

-- the number of this size with the text's sign
abbrev pub signed_as : List ℕ → ℕ → ℤ
signed_as text size = if is_negative text then neg_ℤ (pos size) else pos size

-- ---- the form
-- one digit or more, and nothing else
abbrev pub are_digits : List ℕ → Bool
are_digits bytes = not (length bytes == 0) && list_all is_ascii_digit bytes

abbrev pub is_point : ℕ → Bool
is_point b = b == 46

-- the bytes before the point, or all where there is none
abbrev pub whole_part : List ℕ → List ℕ
whole_part text = before_first is_point text

-- the bytes after the point, or none where there is no point
abbrev pub places_part : List ℕ → List ℕ
places_part text = after_first is_point text

-- digits, and then, where there is a point, digits after it
abbrev pub is_unsigned_decimal : List ℕ → Bool
is_unsigned_decimal text =
    are_digits (whole_part text) && (position_or_len is_point text == length text || are_digits (places_part text))

-- ---- the number
-- so many digits of the places, filled with zeros at the end
abbrev pub filled : ℕ → List ℕ → List ℕ
filled places digits = take places (digits ++ replicate places 48)

-- the size of the number, in units of the last place
unfoldable pub size_of : ℕ → List ℕ → ℕ
size_of places text = digits_value 10 (whole_part (without_minus text) ++ filled places (places_part (without_minus text)))

-- ---- the faults
-- a `+`, or a `-` where no signed number is wanted
abbrev pub has_wrong_sign : Bool → List ℕ → Bool
has_wrong_sign signed text = slice_index text 0 == 43 || not signed && is_negative text

-- at most 24 bytes: digits, and then, where there is a point, digits after it
abbrev pub is_decimal : List ℕ → Bool
is_decimal text = nat_le (length text) 24 && is_unsigned_decimal (without_minus text)

-- a digit after the allowed places isn't 0
abbrev pub has_more_places : ℕ → List ℕ → Bool
has_more_places places text = not (list_all (λ b. b == 48) (drop places (places_part (without_minus text))))

-- the first fault, in this order; `signed` says whether a signed number is wanted
unfoldable pub fault_of : Bool → ℕ → ℕ → List ℕ → Option DecFault
fault_of signed places max text =
    if length text == 0 then Some Empty
    else (if has_wrong_sign signed text then Some Sign
    else (if not (is_decimal text) then Some Digit
    else (if has_more_places places text then Some Places
    else (if nat_lt max (size_of places text) then Some TooLarge
    else None))))

-- the fault, or what there is without one
abbrev pub unless : {X : Type 0} → Option DecFault → X → Result X DecFault
unless (Some fault) x = Err fault
unless None x = Ok x

-- an unsigned decimal's number, or its first fault
abbrev pub decimal_of : ℕ → ℕ → List ℕ → Result ℕ DecFault
decimal_of places max text = unless (fault_of false places max text) (size_of places text)

-- a signed decimal's number, or its first fault
abbrev pub signed_decimal_of : ℕ → ℕ → List ℕ → Result ℤ DecFault
signed_decimal_of places max text = unless (fault_of true places max text) (signed_as text (size_of places text))

-- ---- whole numbers of one spelling
-- `0`, or digits of which the first isn't 0, the latter alone behind a `-`
abbrev pub is_whole : List ℕ → Bool
is_whole text =
    are_digits (without_minus text)
    && (not (slice_index (without_minus text) 0 == 48) || length text == 1)

unfoldable pub whole_fault_of : List ℕ → Option DecFault
whole_fault_of text =
    if length text == 0 then Some Empty
    else (if not (is_whole text) then Some Digit
    else (if nat_le (2 ^ 126) (digits_value 10 (without_minus text)) then Some TooLarge
    else None))

-- a whole number, or its first fault
abbrev pub whole_of : List ℕ → Result ℤ DecFault
whole_of text = unless (whole_fault_of text) (signed_as text (digits_value 10 (without_minus text)))
