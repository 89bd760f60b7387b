-- Fractions over a cell, read from their arrays, and what forms are made of.
use Rattle.std.proofs.Common.{◌≡◌, ℕ, zero, suc, ◌<◌, ℤ, pos, ◌+ℤ◌, List, [], ◌∷◌, map, length, get_or, slice_index, refl, ap, ap₂, ◌∙◌, arith}
use Rattle.log_laws.specs.Between.{Ends}
use Rattle.log_laws.specs.Interval.{ends}
use Rattle.log_laws.specs.declared.iv.Iv.{Iv}
use Rattle.log_laws.specs.Interval.{ends_of}
use Rattle.log_laws.specs.LogE.{log_e_ends}
use Rattle.case_types.specs.declared.cases.Case.{Case}
use Rattle.case_types.specs.Arithmetic.Bounds.{Box}
use Rattle.case_types.specs.Arithmetic.Numbers.{numbers_of, enclosures_of}
use Rattle.case_types.specs.Grid.Cells.{Region}
use Rattle.case_types.specs.Arithmetic.Tables.{ends_at}
use Rattle.log_laws.proofs.Exports.{sum-same}
use Rattle.slope_form.specs.Forms.{Form, slope_of, point_ends, x_log_x_ends}
use Rattle.slope_form.specs.Meaning.{least_step, low_of}
use Rattle.tangent_bound.specs.declared.fractions.Fractions.{Fractions}
use Rattle.tangent_bound.specs.SlopeLows.{centre, fraction_ends}
use Rattle.tangent_bound.specs.SlopeParts.{AreFractions}

pub middle_at : (n : ℕ) (r : Region) (x : Fractions) (v : Ends) (i : ℕ) → AreFractions n r x → i < 4 → v ≡ point_ends (slice_index x.middle i) → v ≡ point_ends (centre n r i)
middle_at n r x v i are l e = e ∙ ap point_ends (are.middle i l)

pub range_at : (n : ℕ) (r : Region) (x : Fractions) (v : Ends) (i : ℕ) → AreFractions n r x → v ≡ ends (pos (slice_index x.ends.a i)) (pos (slice_index x.ends.b i)) → v ≡ fraction_ends n r i
range_at n r x v i are e = e ∙ ap (λ (b : Box). ends (pos (slice_index b.lo i)) (pos (slice_index b.hi i))) are.ends

pub x_log_x-same : (a b m a' b' m' : ℕ) (e e' : Ends) → a ≡ a' → b ≡ b' → m ≡ m' → e ≡ e' → x_log_x_ends a b m e ≡ x_log_x_ends a' b' m' e'
x_log_x-same a b m a' b' m' e e' p q r s = rw (p, q, r, s) refl

pub log_e_is : (c : Case) → log_e_ends ≡ (numbers_of c).log_e
unfolding numbers_of enclosures_of
log_e_is c = refl

-- an interval of a list, as code reads it
pub read_at : (xs : List Iv) (j : ℕ) (r : Iv) → j < length xs → ends_of (get_or xs j r) ≡ ends_at (map ends_of xs) j
read_at [] j r l = absurd (omega (arith, l))
read_at (x ∷ xs) zero r l = refl
read_at (x ∷ xs) (suc j) r l = read_at xs j r (omega (arith, l))

-- the low of a form over the same steps is the same
pub low-same : (f : Form) (a b a' b' : ℕ → ℤ) → ((j : ℕ) → j < 4 → (a j ≡ a' j) × (b j ≡ b' j)) → low_of f a b ≡ low_of f a' b'
low-same f a b a' b' h =
    ap (λ (z : ℤ). f.at.lo +ℤ z) (sum-same 4 (λ j. least_step (slope_of f j) (a j) (b j)) (λ j. least_step (slope_of f j) (a' j) (b' j))
    (λ j l. let k = h j l in ap₂ (least_step (slope_of f j)) k.0 k.1))
