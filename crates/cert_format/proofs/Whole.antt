-- The lines of a whole head.
use Rattle.std.proofs.Common.{◌≡◌, ◌<◌, ◌≤◌, ◌∙◌, ℕ, suc, ℤ, pos, List, [], ◌∷◌, length, get_or, ap, sym, refl, subst, arith, Bool, true, false, Some}
use Rattle.std.specs.Prelude.{◌≤ℤ◌, if◌then◌else◌, ◌==◌}
use Rattle.std.proofs.lemmas.Bool.{eqb-true}
use Rattle.cert_lines.specs.declared.lines.Range.{Range}
use Rattle.cert_lines.specs.declared.places.Place.{Place}
use Rattle.cert_lines.specs.declared.places.Place.TheVariants.{Version, Count, Split, Letters}
use Rattle.cert_lines.specs.Places.{place_at}
use Rattle.cert_lines.specs.Lines.{AreIn, IsIn, Fits}
use Rattle.cert_lines.specs.Forms.{is_named, ranges_of}
use Rattle.cert_lines.specs.Heads.{Draft, up_to, count_of, letters_of}
use Rattle.cert_lines.specs.Indices.{index_of, HasLine, said_on, number_on}
use Rattle.cert_lines.specs.Laws.{SuitedAt}
use Rattle.cert_lines.proofs.Exports.{few, lines_fit, lines_suit, lines_are_found, numbers_fit, whole_heads_have_all, some_is}
use Rattle.cert_format.specs.Building.{IsWhole}
use Rattle.cert_format.proofs.Held.{up_to_is}

-- ---- a line
pub record IsLine (d : Draft) (here : Place) : Type 0 where
  pub inside : index_of d.shape here < length d.said
  pub fits : Fits (is_named here) (ranges_of d.shape.n here) (said_on d here)
  pub suited : SuitedAt d here (index_of d.shape here)

pub is_line : (d : Draft) → IsWhole d → (here : Place) → HasLine d.shape here → IsLine d here
is_line d w here has =
    let lines = w.read.0 in
    let e = w.read.1 in
    let i : ℕ = index_of d.shape here in
    let at : place_at d.shape i ≡ Some here = lines_are_found d.shape (few d lines e) here has in
    let h : i < length d.said = whole_heads_have_all d lines here i e w.ended at in
    let f = lines_fit d lines e i h in
    let same : f.place ≡ here = some_is f.place here (sym f.stands ∙ at) in
    record {
      inside = h;
      fits = subst (λ (p : Place). Fits (is_named p) (ranges_of d.shape.n p) (said_on d here)) same f.fits;
      suited = lines_suit d lines here i e h at;
    }

-- ---- its numbers
pub record AreOne (r : Range) (zs : List ℤ) : Type 0 where
  pub all : zs ≡ get_or zs 0 (pos 0) ∷ []
  pub first : IsIn r (get_or zs 0 (pos 0))

pub are_one : (r : Range) (zs : List ℤ) → AreIn (r ∷ []) zs → AreOne r zs
are_one r [] h = absurd h
are_one r (x ∷ []) h = record { all = refl; first = h.0 }
are_one r (x ∷ y ∷ zs) h = absurd h.1

pub record AreTwo (r s : Range) (zs : List ℤ) : Type 0 where
  pub all : zs ≡ get_or zs 0 (pos 0) ∷ get_or zs 1 (pos 0) ∷ []
  pub first : IsIn r (get_or zs 0 (pos 0))
  pub second : IsIn s (get_or zs 1 (pos 0))

pub are_two : (r s : Range) (zs : List ℤ) → AreIn (r ∷ s ∷ []) zs → AreTwo r s zs
are_two r s [] h = absurd h
are_two r s (x ∷ []) h = absurd h.1
are_two r s (x ∷ y ∷ []) h = record { all = refl; first = h.0; second = h.1.0 }
are_two r s (x ∷ y ∷ z ∷ zs) h = absurd h.1.1

pub record AreThree (r s t : Range) (zs : List ℤ) : Type 0 where
  pub all : zs ≡ get_or zs 0 (pos 0) ∷ get_or zs 1 (pos 0) ∷ get_or zs 2 (pos 0) ∷ []
  pub first : IsIn r (get_or zs 0 (pos 0))
  pub second : IsIn s (get_or zs 1 (pos 0))
  pub third : IsIn t (get_or zs 2 (pos 0))

pub are_three : (r s t : Range) (zs : List ℤ) → AreIn (r ∷ s ∷ t ∷ []) zs → AreThree r s t zs
are_three r s t [] h = absurd h
are_three r s t (x ∷ []) h = absurd h.1
are_three r s t (x ∷ y ∷ []) h = absurd h.1.1
are_three r s t (x ∷ y ∷ z ∷ []) h = record { all = refl; first = h.0; second = h.1.0; third = h.1.1.0 }
are_three r s t (x ∷ y ∷ z ∷ v ∷ zs) h = absurd h.1.1.1

pub record AreFour (r s t u : Range) (zs : List ℤ) : Type 0 where
  pub all : zs ≡ get_or zs 0 (pos 0) ∷ get_or zs 1 (pos 0) ∷ get_or zs 2 (pos 0) ∷ get_or zs 3 (pos 0) ∷ []
  pub first : IsIn r (get_or zs 0 (pos 0))
  pub second : IsIn s (get_or zs 1 (pos 0))
  pub third : IsIn t (get_or zs 2 (pos 0))
  pub fourth : IsIn u (get_or zs 3 (pos 0))

pub are_four : (r s t u : Range) (zs : List ℤ) → AreIn (r ∷ s ∷ t ∷ u ∷ []) zs → AreFour r s t u zs
are_four r s t u [] h = absurd h
are_four r s t u (x ∷ []) h = absurd h.1
are_four r s t u (x ∷ y ∷ []) h = absurd h.1.1
are_four r s t u (x ∷ y ∷ z ∷ []) h = absurd h.1.1.1
are_four r s t u (x ∷ y ∷ z ∷ v ∷ []) h = record { all = refl; first = h.0; second = h.1.0; third = h.1.1.0; fourth = h.1.1.1.0 }
are_four r s t u (x ∷ y ∷ z ∷ v ∷ w ∷ zs) h = absurd h.1.1.1.1

-- ---- its shape
pub record IsCounted (d : Draft) : Type 0 where
  pub version : pos d.shape.version ≡ number_on d Version 0
  pub edition : 1 ≤ d.shape.version
  pub editions : d.shape.version ≤ 2
  pub count : pos d.shape.n ≡ number_on d Count 0
  pub some : 1 ≤ d.shape.n
  pub few : d.shape.n ≤ 4
  pub counted : count_of d ≡ d.shape.n
  pub phases : pos d.shape.phases ≡ number_on d Split 0
  pub phase : 1 ≤ d.shape.phases
  pub four : d.shape.phases ≤ 4
  pub letters : pos d.shape.letters ≡ number_on d Letters 0
  pub letter : 1 ≤ d.shape.letters
  pub lettered : letters_of d ≡ d.shape.letters
  pub limit : d.shape.letters ≤ 60000000

positive : (n one : ℕ) → 1 ≤ n → (if n == 0 then one else n) ≡ n
positive n one h = by_test (n == 0) refl
  where
    by_test : (b : Bool) → (n == 0) ≡ b → (if b then one else n) ≡ n
    by_test true e = absurd (omega (arith, h, eqb-true n 0 e))
    by_test false e = refl

-- a number of the shape, of the number that a line says
record IsNumber (limit low high n : ℕ) (z : ℤ) : Type 0 where
  same : pos n ≡ z
  least : low ≤ n
  most : n ≤ high

is_number : (limit low high n : ℕ) (z : ℤ) → high ≤ limit → n ≡ up_to limit z → pos low ≤ℤ z → z ≤ℤ pos high → IsNumber limit low high n z
is_number limit low high n z order e l h =
    let same : pos n ≡ z = ap pos e ∙ up_to_is limit z (grind arith) (grind arith) in
    record { same = same; least = grind arith; most = grind arith }

pub is_counted : (d : Draft) → IsWhole d → IsCounted d
is_counted d w =
    let v = is_line d w Version tt in
    let n = is_line d w Count tt in
    let s = is_line d w Split tt in
    let l = is_line d w Letters tt in
    let first = (are_one _ (said_on d Version).numbers v.fits.numbers).first in
    let second = (are_one _ (said_on d Count).numbers n.fits.numbers).first in
    let third = (are_two _ _ (said_on d Split).numbers s.fits.numbers).first in
    let fourth = (are_one _ (said_on d Letters).numbers l.fits.numbers).first in
    let a = is_number 4 1 2 d.shape.version (number_on d Version 0) (omega arith) (v.suited.stated.version refl) first.low first.high in
    let b = is_number 4 1 4 d.shape.n (number_on d Count 0) (omega arith) (n.suited.stated.count refl) second.low second.high in
    let c = is_number 4 1 4 d.shape.phases (number_on d Split 0) (omega arith) (s.suited.stated.phases refl) third.low third.high in
    let e = is_number 60000000 1 60000000 d.shape.letters (number_on d Letters 0) (omega arith) (l.suited.stated.letters refl) fourth.low fourth.high in
    record {
      version = a.same;
      edition = a.least;
      editions = a.most;
      count = b.same;
      some = b.least;
      few = b.most;
      counted = positive d.shape.n 1 b.least;
      phases = c.same;
      phase = c.least;
      four = c.most;
      letters = e.same;
      letter = e.least;
      lettered = positive d.shape.letters 1 e.least;
      limit = e.most;
    }

-- ---- a number of any line
pub is_in_range : (d : Draft) → IsWhole d → (here : Place) → HasLine d.shape here → (k : ℕ) → k < length (ranges_of d.shape.n here)
    → IsIn (get_or (ranges_of d.shape.n here) k (record { low = pos 0; high = pos 0 })) (number_on d here k)
is_in_range d w here has k h =
    let i : ℕ = index_of d.shape here in
    let at : place_at d.shape i ≡ Some here = lines_are_found d.shape (few d w.read.0 w.read.1) here has in
    numbers_fit d w.read.0 here i k w.read.1 (is_line d w here has).inside at h

as_many : (rs : List Range) (zs : List ℤ) → AreIn rs zs → length zs ≡ length rs
as_many [] [] h = refl
as_many [] (z ∷ zs) h = absurd h
as_many (r ∷ rs) [] h = absurd h
as_many (r ∷ rs) (z ∷ zs) h = ap (λ (n : ℕ). suc n) (as_many rs zs h.1)

pub number_count : (d : Draft) → IsWhole d → (here : Place) → HasLine d.shape here → length (said_on d here).numbers ≡ length (ranges_of d.shape.n here)
number_count d w here has = as_many (ranges_of d.shape.n here) (said_on d here).numbers (is_line d w here has).fits.numbers
