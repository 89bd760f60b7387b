-- The laws of single logarithms: by whole powers, by their arguments and factors, and by the logarithm of e.
use Rattle.std.specs.Prelude.{ℕ, ◌*◌, ◌^◌, ◌<◌, ◌≤◌, ◌↔◌, ℤ, pos, neg_ℤ, ◌≤ℤ◌, ◌<ℤ◌, ◌∷◌}
use Rattle.log_laws.specs.Between.{Ends}
use Rattle.log_laws.specs.Fraction.{Fraction, IsFraction, IsAtMost, sum_of, product_of, whole}
use Rattle.log_laws.specs.LogE.{HoldsLogE}
use Rattle.log_laws.specs.LogSum.{LogSum, AtLeast, AtMost, IsPositive, times_log}
use Rattle.log_laws.specs.Whole.{positive_part, negative_part}

-- n times the logarithm of u / v is at least k exactly where 2 ^ k * v ^ n is at most u ^ n
abbrev pub AtLeastPowers : Type 0
AtLeastPowers =
    (n u v k : ℕ) → 0 < u → 0 < v →
    AtLeast (times_log (whole (pos n)) (record { num = pos u; den = v })) (whole (pos k)) ↔ (2 ^ k * v ^ n ≤ u ^ n)

abbrev pub AtMostPowers : Type 0
AtMostPowers =
    (n u v k : ℕ) → 0 < u → 0 < v →
    AtMost (times_log (whole (pos n)) (record { num = pos u; den = v })) (whole (pos k)) ↔ (u ^ n ≤ 2 ^ k * v ^ n)

-- n times the logarithm of u / v is at least z / d exactly where 2 ^ z * v ^ (n * d) is at most u ^ (n * d); where z is negative,
-- its power stands on the other side
abbrev pub AtLeastPowersOver : Type 0
AtLeastPowersOver =
    (n u v d : ℕ) (z : ℤ) → 0 < u → 0 < v → 0 < d →
    AtLeast (times_log (whole (pos n)) (record { num = pos u; den = v })) (record { num = z; den = d })
    ↔ (2 ^ positive_part z * v ^ (n * d) ≤ 2 ^ negative_part z * u ^ (n * d))

abbrev pub AtMostPowersOver : Type 0
AtMostPowersOver =
    (n u v d : ℕ) (z : ℤ) → 0 < u → 0 < v → 0 < d →
    AtMost (times_log (whole (pos n)) (record { num = pos u; den = v })) (record { num = z; den = d })
    ↔ (2 ^ negative_part z * u ^ (n * d) ≤ 2 ^ positive_part z * v ^ (n * d))

-- f times the logarithm of a, and s
abbrev pub with_log : Fraction → Fraction → LogSum → LogSum
with_log f a s = record { terms = record { factor = f; argument = a } ∷ s.terms; rest = s.rest }

-- a larger argument may stand under a factor that is not negative
abbrev pub AtLeastTakesLarger : Type 0
AtLeastTakesLarger =
    (f a b : Fraction) (s : LogSum) (r : Fraction) → pos 0 ≤ℤ f.num → IsPositive b → IsAtMost a b →
    AtLeast (with_log f a s) r → AtLeast (with_log f b s) r

-- the logarithm of a product is the sum of the logarithms
abbrev pub AtLeastMultiplies : Type 0
AtLeastMultiplies =
    (f a b : Fraction) (s : LogSum) (r : Fraction) → IsPositive a → IsPositive b →
    AtLeast (with_log f a (with_log f b s)) r ↔ AtLeast (with_log f (product_of a b) s) r

-- two factors of one logarithm merge into their sum
abbrev pub AtLeastMerges : Type 0
AtLeastMerges =
    (f g a : Fraction) (s : LogSum) (r : Fraction) → IsFraction f → IsFraction g →
    AtLeast (with_log f a (with_log g a s)) r ↔ AtLeast (with_log (sum_of f g) a s) r

-- the logarithm of 1 + d
abbrev pub log_of_one_and : Fraction → LogSum
log_of_one_and d = times_log (whole (pos 1)) (sum_of (whole (pos 1)) d)

-- d times an end in 2 ^ -40
abbrev pub times_end : Fraction → ℤ → Fraction
times_end d z = product_of d (record { num = z; den = 2 ^ 40 })

-- the logarithm of 1 + d is at most d times that of e: for d of at least 0 by its upper end
abbrev pub LogOfMore : Ends → Type 0
LogOfMore e = (d : Fraction) → IsFraction d → pos 0 ≤ℤ d.num → AtMost (log_of_one_and d) (times_end d e.hi)

-- and for d above -1 and at most 0 by its lower end
abbrev pub LogOfLess : Ends → Type 0
LogOfLess e =
    (d : Fraction) → IsFraction d → neg_ℤ (pos d.den) <ℤ d.num → d.num ≤ℤ pos 0 → AtMost (log_of_one_and d) (times_end d e.lo)

abbrev pub LogOfOneAnd : Type 0
LogOfOneAnd = (e : Ends) → HoldsLogE e → LogOfMore e × LogOfLess e
