-- No line of a head has more than 400 bytes.
use Rattle.std.proofs.Common.{◌≡◌, ℕ, suc, ◌+◌, ◌*◌, ◌^◌, ◌<◌, ◌≤◌, List, [], ◌∷◌, length, refl, sym, ap, subst, arith, Bool, true, false, ◌&&◌, if◌then◌else◌, Some, Ok, Err, ℤ, pos, negsuc, lit≤}
use Rattle.std.specs.Prelude.{◌==◌, nat_le, int_le, unsigned_abs}
use Rattle.std.specs.List.{list_all}
use Rattle.std.specs.Fmt.{signed_decimal}
use Rattle.std.proofs.lemmas.Bool.{leb-true}
use Rattle.std.proofs.lemmas.Fmt.{length-decimal-le_wide}
use Rattle.std.proofs.lemmas.List.{length-append, length-take}
use Rattle.dec_text.specs.declared.faults.DecFault.TheVariants.{Empty, Digit}
use Rattle.case_types.specs.Ranges.{is_name_byte}
use Rattle.case_words.specs.Names.{name_of}
use Rattle.cert_lines.specs.declared.lines.Range.{Range}
use Rattle.cert_lines.specs.declared.places.Place.{Place}
use Rattle.cert_lines.specs.declared.places.Place.TheVariants.{Version, Temperature, Pressure, Count, Edition, Component, Interaction, RootTwo, LogE, TemperatureRoot, PressureRoot, Split, Phase, Upper, Plane, Low, Gap, Letters}
use Rattle.cert_lines.specs.declared.places.Shape.{Shape}
use Rattle.cert_lines.specs.Lines.{Said, AreIn, IsNamed, Fits, numbers_text, name_part, line_text}
use Rattle.cert_lines.specs.Forms.{word_of, is_named, ranges_of, energy, part, packing}
use Rattle.cert_lines.specs.Heads.{Draft, blank, reshaped, up_to, number_in, with_line}
use Rattle.cert_lines.specs.HeadTexts.{with_lines}
use Rattle.cert_lines.proofs.LineText.{some_is, bind_some}
use Rattle.cert_lines.proofs.FewLines.{few_lines}
use Rattle.cert_lines.proofs.HeadText.{stands}

number_length : (z : ℤ) → unsigned_abs z < 2 ^ 126 → length (signed_decimal z) ≤ 39
number_length (pos n) small =
    let wide : 2 ^ 126 ≤ 10 ^ 38 = lit≤ tt in
    let wider : 2 ^ 126 ≤ 10 ^ 64 = lit≤ tt in
    omega (arith, length-decimal-le_wide 38 n (omega arith) (omega (arith, small, wide)) (omega (arith, small, wider)))
number_length (negsuc m) small =
    let wide : 2 ^ 126 ≤ 10 ^ 38 = lit≤ tt in
    let wider : 2 ^ 126 ≤ 10 ^ 64 = lit≤ tt in
    omega (arith, length-decimal-le_wide 38 (suc m) (omega arith) (omega (arith, small, wide)) (omega (arith, small, wider)))

numbers_length : (rs : List Range) (zs : List ℤ) → AreIn rs zs → length (numbers_text zs) ≤ 40 * length rs
numbers_length [] [] fits = omega arith
numbers_length [] (z ∷ zs) fits = absurd fits
numbers_length (r ∷ rs) [] fits = absurd fits
numbers_length (r ∷ rs) (z ∷ zs) fits =
    rw length-append (omega (arith, number_length z fits.0.small, numbers_length rs zs fits.1))

ranges_few : (n : ℕ) (place : Place) → length (ranges_of n place) ≤ 5
ranges_few n Version = lit≤ tt
ranges_few n Temperature = lit≤ tt
ranges_few n Pressure = lit≤ tt
ranges_few n Count = lit≤ tt
ranges_few n Edition = lit≤ tt
ranges_few n (Component i) = lit≤ tt
ranges_few n (Interaction i j) = lit≤ tt
ranges_few n RootTwo = lit≤ tt
ranges_few n LogE = lit≤ tt
ranges_few n (TemperatureRoot i) = lit≤ tt
ranges_few n (PressureRoot i j) = lit≤ tt
ranges_few n Split = lit≤ tt
ranges_few n (Phase k) = omega (arith, length-take (n + 1) (packing ∷ part ∷ part ∷ part ∷ part ∷ []))
ranges_few n Upper = lit≤ tt
ranges_few n Plane = omega (arith, length-take n (energy ∷ energy ∷ energy ∷ energy ∷ []))
ranges_few n Low = lit≤ tt
ranges_few n Gap = lit≤ tt
ranges_few n Letters = lit≤ tt

word_short : (place : Place) → length (word_of place) ≤ 12
word_short Version = lit≤ tt
word_short Temperature = lit≤ tt
word_short Pressure = lit≤ tt
word_short Count = lit≤ tt
word_short Edition = lit≤ tt
word_short (Component i) = lit≤ tt
word_short (Interaction i j) = lit≤ tt
word_short RootTwo = lit≤ tt
word_short LogE = lit≤ tt
word_short (TemperatureRoot i) = lit≤ tt
word_short (PressureRoot i j) = lit≤ tt
word_short Split = lit≤ tt
word_short (Phase k) = lit≤ tt
word_short Upper = lit≤ tt
word_short Plane = lit≤ tt
word_short Low = lit≤ tt
word_short Gap = lit≤ tt
word_short Letters = lit≤ tt

name_short : (name : List ℕ) → name_of name ≡ Ok name → length name ≤ 16
unfolding name_of
name_short name e = by_tests (length name == 0) (nat_le (length name) 16) (list_all is_name_byte name) refl e
  where
    by_tests : (a b c : Bool) → nat_le (length name) 16 ≡ b → (if a then Err Empty else (if b && c then Ok name else Err Digit)) ≡ Ok name → length name ≤ 16
    by_tests true b c h e = absurd cc
    by_tests false false c h e = absurd cc
    by_tests false true c h e = leb-true (length name) 16 h

named_short : (named : Bool) (name : List ℕ) → IsNamed named name → length (name_part named name) ≤ 17
named_short true name fits = omega (arith, name_short name fits)
named_short false name fits = omega arith

pub line_length : (n : ℕ) (place : Place) (s : Said) → Fits (is_named place) (ranges_of n place) s → length (line_text (word_of place) (is_named place) s) ≤ 400
line_length n place s fits =
    rw (length-append, length-append)
    (omega (arith, word_short place, named_short (is_named place) s.name fits.name, numbers_length (ranges_of n place) s.numbers fits.numbers, ranges_few n place))

-- a longer line can't stand
pub long_line : (d : Draft) (line : List ℕ) (after : Draft) → 401 ≤ length line → with_line d line ≡ Some after → ⊥
long_line d line after long e =
    let s = stands d line after e in
    let same : length line ≡ length (line_text (word_of s.place) (is_named s.place) s.said) = ap length s.written in
    omega (arith, long, same, line_length d.shape.n s.place s.said s.can.fits)

-- ---- the counts of a shape
pub up_to_limit : (limit : ℕ) (z : ℤ) → up_to limit z ≤ limit
up_to_limit limit (negsuc m) = omega arith
up_to_limit limit (pos n) = by_tests (int_le (pos 0) (pos n)) (int_le (pos n) (pos limit)) refl
  where
    by_tests : (a b : Bool) → int_le (pos n) (pos limit) ≡ b → (if a && b then n else 0) ≤ limit
    by_tests false b h = omega arith
    by_tests true false h = omega arith
    by_tests true true h = leb-true n limit h

pub record IsFew (s : Shape) : Type 0 where
  pub n : s.n ≤ 4
  pub phases : s.phases ≤ 4
  pub letters : s.letters ≤ 60000000

kept_few : (shape : Shape) (place : Place) (s : Said) → IsFew shape → IsFew (reshaped shape place s)
kept_few shape Version s few = record { n = few.n; phases = few.phases; letters = few.letters }
kept_few shape Count s few = record { n = up_to_limit 4 (number_in s 0); phases = few.phases; letters = few.letters }
kept_few shape Split s few = record { n = few.n; phases = up_to_limit 4 (number_in s 0); letters = few.letters }
kept_few shape Letters s few = record { n = few.n; phases = few.phases; letters = up_to_limit 60000000 (number_in s 0) }
kept_few shape other s few = few

-- a line more
pub record IsLonger (d after : Draft) : Type 0 where
  pub few : IsFew after.shape
  pub more : length after.said ≡ length d.said + 1
  pub most : length after.said ≤ 37

pub longer : (d : Draft) (line : List ℕ) (after : Draft) → IsFew d.shape → with_line d line ≡ Some after → IsLonger d after
longer d line after few e =
    let s = stands d line after e in
    let k = few_lines d.shape (length d.said) s.place few.n few.phases s.can.next in
    subst (λ (x : Draft). IsLonger d x) (sym s.is) (record {
      few = kept_few d.shape s.place s.said few;
      more = length-append d.said (s.said ∷ []);
      most = omega (arith, length-append d.said (s.said ∷ []), k);
    })

-- after some lines more
pub record IsLong (after : Draft) : Type 0 where
  pub few : IsFew after.shape
  pub most : length after.said ≤ 37

pub after_lines : (d after : Draft) (lines : List (List ℕ)) → IsLong d → with_lines d lines ≡ Some after → IsLong after
unfolding with_lines
after_lines d after [] h e = subst (λ (x : Draft). IsLong x) (some_is d after e) h
after_lines d after (line ∷ lines) h e =
    let a = bind_some (with_line d line) (λ x. with_lines x lines) after e in
    let l = longer d line a.0 h.few a.1 in
    after_lines a.0 after lines (record { few = l.few; most = l.most }) a.2

pub head_long : (d : Draft) (lines : List (List ℕ)) → with_lines blank lines ≡ Some d → IsLong d
head_long d lines e =
    after_lines blank d lines (record { few = record { n = omega arith; phases = omega arith; letters = omega arith }; most = omega arith }) e
