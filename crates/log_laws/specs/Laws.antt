-- The laws of bounds of log sums, which the functions of this crate ensure.
use Rattle.std.specs.Prelude.{ℕ, ◌≤◌, ◌<◌, ◌↔◌, ℤ, pos, ◌≤ℤ◌, List, [], ◌∷◌}
use Rattle.log_laws.specs.Fraction.{Fraction, IsFraction, IsAtMost, negated, sum_of, product_of, whole}
use Rattle.log_laws.specs.LogSum.{LogSum, AtLeast, AtMost, IsCommon, terms_above, over, under, added, scaled, opposite, constant}
use Rattle.log_laws.specs.Sums.{int_sum_below, log_sum_below}

-- any common denominator gives the answer of the least
abbrev pub AnyDenominator : Type 0
AnyDenominator =
    (s : LogSum) (r : Fraction) (h : ℕ) → IsCommon h (terms_above s r) →
    AtLeast s r ↔ (under h (terms_above s r) ≤ over h (terms_above s r))

abbrev pub AtLeastAdds : Type 0
AtLeastAdds = (s t : LogSum) (q r : Fraction) → AtLeast s q → AtLeast t r → AtLeast (added s t) (sum_of q r)

abbrev pub AtLeastScales : Type 0
AtLeastScales =
    (c : Fraction) (s : LogSum) (r : Fraction) → IsFraction c → pos 0 ≤ℤ c.num → AtLeast s r → AtLeast (scaled c s) (product_of c r)

abbrev pub AtMostIsOpposite : Type 0
AtMostIsOpposite = (s : LogSum) (r : Fraction) → AtMost s r ↔ AtLeast (opposite s) (negated r)

-- a lower bound may be lowered
abbrev pub AtLeastLowers : Type 0
AtLeastLowers = (s : LogSum) (q r : Fraction) → IsFraction r → IsAtMost r q → AtLeast s q → AtLeast s r

-- a part of a weighted sum: its log sum is at least its bound
pub record Part : Type 0 where
  pub weight : Fraction
  pub sum : LogSum
  pub bound : Fraction

abbrev pub IsPart : Part → Type 0
IsPart p = IsFraction p.weight × (pos 0 ≤ℤ p.weight.num) × AtLeast p.sum p.bound

abbrev pub weighted_sum : List Part → LogSum
weighted_sum [] = constant (whole (pos 0))
weighted_sum (p ∷ ps) = added (scaled p.weight p.sum) (weighted_sum ps)

abbrev pub weighted_bound : List Part → Fraction
weighted_bound [] = whole (pos 0)
weighted_bound (p ∷ ps) = sum_of (product_of p.weight p.bound) (weighted_bound ps)

abbrev pub AreParts : List Part → Type 0
AreParts [] = Unit {0}
AreParts (p ∷ ps) = IsPart p × AreParts ps

-- a weighted sum of log sums is at least the weighted sum of their bounds
abbrev pub AtLeastWeighs : Type 0
AtLeastWeighs = (ps : List Part) → AreParts ps → AtLeast (weighted_sum ps) (weighted_bound ps)

-- a sum over an index is at least the sum of the bounds
abbrev pub AtLeastSums : Type 0
AtLeastSums =
    (n : ℕ) (f : ℕ → LogSum) (z : ℕ → ℤ) (d : ℕ) → 0 < d → ((i : ℕ) → i < n → AtLeast (f i) (record { num = z i; den = d })) →
    AtLeast (log_sum_below n f) (record { num = int_sum_below n z; den = d })
