-- Names of components, as their bytes.
use Rattle.std.specs.Prelude.{ℕ, List, [], ◌∷◌, length, take, Bool, true, not, ◌&&◌, ◌==◌, nat_le, if◌then◌else◌, Result, Ok, Err}
use Rattle.std.specs.List.{list_all, list_any}
use Rattle.std.specs.Str.{bytes_eq}
use Rattle.case_types.specs.declared.cases.Name.{Name}
use Rattle.case_types.specs.Ranges.{is_name_byte}
use Rattle.dec_text.specs.declared.faults.DecFault.{DecFault}
use Rattle.dec_text.specs.declared.faults.DecFault.TheVariants.{Empty, Digit}

-- the bytes of a name
abbrev pub text_of : Name → List ℕ
text_of name = take name.len name.bytes

-- 1 to 16 bytes out of letters, digits, `_` and `-` of ASCII
unfoldable pub name_of : List ℕ → Result (List ℕ) DecFault
name_of text =
    if length text == 0 then Err Empty
    else (if nat_le (length text) 16 && list_all is_name_byte text then Ok text else Err Digit)

-- 1 to 16 bytes
abbrev pub is_name_length : List ℕ → Bool
is_name_length text = nat_le 1 (length text) && nat_le (length text) 16

-- no name stands twice
unfoldable pub are_different : List (List ℕ) → Bool
are_different [] = true
are_different (name ∷ names) = not (list_any (bytes_eq name) names) && are_different names
