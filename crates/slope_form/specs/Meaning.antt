-- What a slope form says: of a function from points to log sums, by its value at the centre of a cell and at another point.
use Rattle.std.specs.Prelude.{ℕ, ◌*◌, ◌^◌, ◌<◌, ℤ, pos, ◌+ℤ◌, ◌*ℤ◌, ◌≤ℤ◌}
use Rattle.std.specs.Int.{int_min, int_max}
use Rattle.log_laws.specs.Between.{Ends, IsBetween}
use Rattle.log_laws.specs.Fraction.{Fraction, product_of}
use Rattle.log_laws.specs.LogSum.{LogSum, AtLeast, AtMost, added, opposite}
use Rattle.log_laws.specs.Whole.{floor_over}
use Rattle.fix_interval.specs.Extremes.{least_of_four}
use Rattle.log_laws.specs.Sums.{int_sum_below}
use Rattle.slope_form.specs.Forms.{Form, slope_of}

-- the steps from the centre to a point, over one denominator
pub record Steps : Type 0 where
  pub den : ℕ
  pub positive : 0 < den
  pub step : ℕ → ℤ

abbrev pub bits_of : ℤ → Fraction
bits_of z = record { num = z; den = 2 ^ 40 }

-- the value lies between the ends
pub record IsIn (e : Ends) (s : LogSum) : Type 0 where
  pub at_least : AtLeast s (bits_of e.lo)
  pub at_most : AtMost s (bits_of e.hi)

-- the sum over the steps of the lesser, and of the greater, of a step times the ends of its slope
abbrev pub least_change : (ℕ → Ends) → Steps → Fraction
least_change by d = record {
  num = int_sum_below 4 (λ j. int_min ((by j).lo *ℤ d.step j) ((by j).hi *ℤ d.step j));
  den = 2 ^ 40 * d.den;
}

abbrev pub greatest_change : (ℕ → Ends) → Steps → Fraction
greatest_change by d = record {
  num = int_sum_below 4 (λ j. int_max ((by j).lo *ℤ d.step j) ((by j).hi *ℤ d.step j));
  den = 2 ^ 40 * d.den;
}

-- the value v at a point less the value u at the centre
abbrev pub change : LogSum → LogSum → LogSum
change u v = added v (opposite u)

-- the value at the centre, and how it changes up to a point
pub record IsSloped (f : Form) (d : Steps) (u v : LogSum) : Type 0 where
  pub at : IsIn f.at u
  pub at_least : AtLeast (change u v) (least_change (slope_of f) d)
  pub at_most : AtMost (change u v) (greatest_change (slope_of f) d)

-- and the range, at the centre and at the point
pub record Means (f : Form) (d : Steps) (u v : LogSum) : Type 0 where
  pub sloped : IsSloped f d u v
  pub over_centre : IsIn f.over u
  pub over_point : IsIn f.over v

-- the change from u to v lies between two numbers inside s, each times the step b
pub record MeanValue (s : Ends) (b : Fraction) (u v : LogSum) : Type 0 where
  pub low : Fraction
  pub low_in : IsBetween s (2 ^ 40) low
  pub at_least : AtLeast (change u v) (product_of low b)
  pub high : Fraction
  pub high_in : IsBetween s (2 ^ 40) high
  pub at_most : AtMost (change u v) (product_of high b)

-- ---- the low of a form
-- the least change of one slope over steps from a to b, in 2^-40, rounded down
abbrev pub least_step : Ends → ℤ → ℤ → ℤ
least_step by a b = floor_over (least_of_four (by.lo *ℤ a) (by.lo *ℤ b) (by.hi *ℤ a) (by.hi *ℤ b)) (2 ^ 40)

-- at least this, in 2^-40, where the steps lie from a to b
abbrev pub low_of : Form → (ℕ → ℤ) → (ℕ → ℤ) → ℤ
low_of f a b = f.at.lo +ℤ int_sum_below 4 (λ j. least_step (slope_of f j) (a j) (b j))

-- each step lies from a to b, in 2^-40
abbrev pub AreStepsBetween : (ℕ → ℤ) → (ℕ → ℤ) → Steps → Type 0
AreStepsBetween a b d =
    (j : ℕ) → j < 4 → ((a j *ℤ pos d.den) ≤ℤ (d.step j *ℤ pos (2 ^ 40))) × ((d.step j *ℤ pos (2 ^ 40)) ≤ℤ (b j *ℤ pos d.den))
