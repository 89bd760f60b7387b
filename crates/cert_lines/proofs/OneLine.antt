-- No line of a head holds a newline.
use Rattle.std.proofs.Common.{◌≡◌, ℕ, suc, ◌^◌, ◌<◌, ◌≤◌, List, [], ◌∷◌, ◌++◌, length, refl, sym, subst, arith, Bool, true, false, not, ◌&&◌, if◌then◌else◌, Some, Ok, Err, ℤ, pos, negsuc, lit≤}
use Rattle.std.specs.Prelude.{◌==◌, nat_le, unsigned_abs}
use Rattle.std.specs.List.{list_all}
use Rattle.std.specs.Fmt.{decimal, signed_decimal}
use Rattle.std.specs.Str.Parse.{AllDigits}
use Rattle.std.proofs.lemmas.Bool.{and_parts, eqb-true}
use Rattle.std.proofs.lemmas.Bool.Decides.{nat_tests}
use Rattle.std.proofs.lemmas.Fmt.{decimal_is_IsNumeral_wide}
use Rattle.std.proofs.lemmas.List.Folds.{list_all-append}
use Rattle.std.proofs.lemmas.Str.Parse.{digit_from_value}
use Rattle.dec_text.specs.declared.faults.DecFault.TheVariants.{Empty, Digit}
use Rattle.case_types.specs.Ranges.{is_name_byte}
use Rattle.case_words.specs.Names.{name_of}
use Rattle.cert_lines.specs.declared.lines.Range.{Range}
use Rattle.cert_lines.specs.declared.places.Place.{Place}
use Rattle.cert_lines.specs.declared.places.Place.TheVariants.{Version, Temperature, Pressure, Count, Edition, Component, Interaction, RootTwo, LogE, TemperatureRoot, PressureRoot, Split, Phase, Upper, Plane, Low, Gap, Letters}
use Rattle.cert_lines.specs.Lines.{AreIn, IsNamed, numbers_text, name_part}
use Rattle.cert_lines.specs.Forms.{word_of, is_named, ranges_of}
use Rattle.cert_lines.specs.Heads.{Draft, with_line}
use Rattle.cert_lines.specs.Laws.{is_one_line, IsShort, LinesAreShort}
use Rattle.cert_lines.proofs.LineLength.{line_length, head_long}
use Rattle.cert_lines.proofs.HeadText.{stands}

abbrev pub is_inner : ℕ → Bool
is_inner c = not (c == 10)

both : (xs ys : List ℕ) → is_one_line xs ≡ true → is_one_line ys ≡ true → is_one_line (xs ++ ys) ≡ true
both xs ys e f = rw (list_all-append is_inner xs ys, e, f) refl

digit_inner : (c : ℕ) → 48 ≤ c → is_inner c ≡ true
digit_inner c h = grind (arith, nat_tests)

digits_inner : (ds : List ℕ) → AllDigits 10 ds → is_one_line ds ≡ true
digits_inner [] all = refl
digits_inner (c ∷ cs) all = rw (digit_inner c (digit_from_value c all.0).0, digits_inner cs all.1) refl

number_inner : (z : ℤ) → unsigned_abs z < 2 ^ 126 → is_one_line (signed_decimal z) ≡ true
number_inner (pos n) small =
    let wide : 2 ^ 126 ≤ 10 ^ 64 = lit≤ tt in
    digits_inner (decimal n) (decimal_is_IsNumeral_wide n (omega (arith, small, wide))).0.1
number_inner (negsuc m) small =
    let wide : 2 ^ 126 ≤ 10 ^ 64 = lit≤ tt in
    digits_inner (decimal (suc m)) (decimal_is_IsNumeral_wide (suc m) (omega (arith, small, wide))).0.1

numbers_inner : (rs : List Range) (zs : List ℤ) → AreIn rs zs → is_one_line (numbers_text zs) ≡ true
numbers_inner [] [] fits = refl
numbers_inner [] (z ∷ zs) fits = absurd fits
numbers_inner (r ∷ rs) [] fits = absurd fits
numbers_inner (r ∷ rs) (z ∷ zs) fits = both (signed_decimal z) (numbers_text zs) (number_inner z fits.0.small) (numbers_inner rs zs fits.1)

name_byte_inner : (c : ℕ) → is_name_byte c ≡ true → is_inner c ≡ true
name_byte_inner c e = by_case (c == 10) refl
  where
    by_case : (b : Bool) → (c == 10) ≡ b → not b ≡ true
    by_case false h = refl
    by_case true h =
        let wrong : is_name_byte 10 ≡ true = subst (λ x. is_name_byte x ≡ true) (eqb-true c 10 h) e in
        absurd cc

name_bytes_inner : (cs : List ℕ) → list_all is_name_byte cs ≡ true → is_one_line cs ≡ true
name_bytes_inner [] e = refl
name_bytes_inner (c ∷ cs) e =
    let p = and_parts (is_name_byte c) (list_all is_name_byte cs) e in
    rw (name_byte_inner c p.0, name_bytes_inner cs p.1) refl

name_inner : (name : List ℕ) → name_of name ≡ Ok name → is_one_line name ≡ true
unfolding name_of
name_inner name e = by_tests (length name == 0) (nat_le (length name) 16) (list_all is_name_byte name) refl e
  where
    by_tests : (a b c : Bool) → list_all is_name_byte name ≡ c → (if a then Err Empty else (if b && c then Ok name else Err Digit)) ≡ Ok name → is_one_line name ≡ true
    by_tests true b c h e = absurd cc
    by_tests false false c h e = absurd cc
    by_tests false true false h e = absurd cc
    by_tests false true true h e = name_bytes_inner name h

named_inner : (named : Bool) (name : List ℕ) → IsNamed named name → is_one_line (name_part named name) ≡ true
named_inner true name fits = name_inner name fits
named_inner false name fits = refl

word_inner : (place : Place) → is_one_line (word_of place) ≡ true
word_inner Version = refl
word_inner Temperature = refl
word_inner Pressure = refl
word_inner Count = refl
word_inner Edition = refl
word_inner (Component i) = refl
word_inner (Interaction i j) = refl
word_inner RootTwo = refl
word_inner LogE = refl
word_inner (TemperatureRoot i) = refl
word_inner (PressureRoot i j) = refl
word_inner Split = refl
word_inner (Phase k) = refl
word_inner Upper = refl
word_inner Plane = refl
word_inner Low = refl
word_inner Gap = refl
word_inner Letters = refl

pub is_line : (d : Draft) (line : List ℕ) (after : Draft) → with_line d line ≡ Some after → IsShort line
is_line d line after e =
    let s = stands d line after e in
    let f = s.can.fits in
    subst (λ (l : List ℕ). IsShort l) (sym s.written) (record {
      unbroken =
          both (word_of s.place) (name_part (is_named s.place) s.said.name ++ numbers_text s.said.numbers) (word_inner s.place)
          (both (name_part (is_named s.place) s.said.name) (numbers_text s.said.numbers) (named_inner (is_named s.place) s.said.name f.name)
          (numbers_inner (ranges_of d.shape.n s.place) s.said.numbers f.numbers));
      short = line_length d.shape.n s.place s.said f;
    })

pub lines_are_short : LinesAreShort
lines_are_short = (λ d after line e. is_line d line after e, λ d lines e. (head_long d lines e).most)
