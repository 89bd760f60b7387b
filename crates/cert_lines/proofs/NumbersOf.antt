-- The numbers of a head lie in the ranges of their places.
use Rattle.std.proofs.Common.{◌≡◌, ℕ, zero, suc, ◌<◌, List, [], ◌∷◌, length, get_or, sym, subst, ◌∙◌, arith, ℤ, pos}
use Rattle.cert_lines.specs.declared.lines.Range.{Range}
use Rattle.cert_lines.specs.declared.places.Place.{Place}
use Rattle.cert_lines.specs.Lines.{Said, AreIn, IsIn, Fits}
use Rattle.cert_lines.specs.Forms.{is_named, ranges_of}
use Rattle.cert_lines.specs.Laws.{NumbersFit}
use Rattle.cert_lines.proofs.Shapes.{lines_fit}
use Rattle.cert_lines.proofs.LineText.{some_is}

number_of : (rs : List Range) (zs : List ℤ) (k : ℕ) (r : Range) → AreIn rs zs → k < length rs → IsIn (get_or rs k r) (get_or zs k (pos 0))
number_of [] [] k r fits h = absurd (omega (arith, h))
number_of [] (z ∷ zs) k r fits h = absurd fits
number_of (x ∷ rs) [] k r fits h = absurd fits
number_of (x ∷ rs) (z ∷ zs) zero r fits h = fits.0
number_of (x ∷ rs) (z ∷ zs) (suc k) r fits h = number_of rs zs k r fits.1 (omega (arith, h))

pub numbers_fit : NumbersFit
numbers_fit d lines place i k e inside at h =
    let f = lines_fit d lines e i inside in
    let same : f.place ≡ place = some_is f.place place (sym f.stands ∙ at) in
    let said : Said = get_or d.said i (record { name = []; numbers = [] }) in
    let fits : Fits (is_named place) (ranges_of d.shape.n place) said = subst (λ (p : Place). Fits (is_named p) (ranges_of d.shape.n p) said) same f.fits in
    number_of (ranges_of d.shape.n place) said.numbers k (record { low = pos 0; high = pos 0 }) fits.numbers h
