-- Log sums, and what it says that one is at least or at most a fraction. No logarithm is evaluated.
use Rattle.std.specs.Prelude.{ℕ, ◌*◌, ◌/◌, ◌^◌, ◌<◌, ◌≤◌, ◌≡◌, ◌%◌, pos, List, [], ◌∷◌, ◌++◌}
use Rattle.log_laws.specs.Whole.{positive_part, negative_part}
use Rattle.log_laws.specs.Fraction.{Fraction, IsFraction, whole, sum_of, negated, difference, product_of}

-- the factor times the logarithm to the base 2 of the argument, which is positive
pub record Term : Type 0 where
  pub factor : Fraction
  pub argument : Fraction

-- the sum of the terms, and the rest
pub record LogSum : Type 0 where
  pub terms : List Term
  pub rest : Fraction

-- h times f, or 0 where f is negative
abbrev pub rise : ℕ → Fraction → ℕ
rise h f = positive_part f.num * h / f.den

-- h times f with its sign changed, or 0 where f is positive
abbrev pub fall : ℕ → Fraction → ℕ
fall h f = negative_part f.num * h / f.den

abbrev pub IsWholeAt : ℕ → Fraction → Type 0
IsWholeAt h f = IsFraction f × (positive_part f.num * h % f.den ≡ 0) × (negative_part f.num * h % f.den ≡ 0)

abbrev pub IsPositive : Fraction → Type 0
IsPositive a = IsFraction a × (0 < positive_part a.num)

-- The product of all a ^ (h * f), for the factors f and the arguments a, as one whole number over another: a negative
-- exponent moves its power to the other side.
abbrev pub over : ℕ → List Term → ℕ
over h [] = 1
over h (t ∷ ts) =
    positive_part t.argument.num ^ rise h t.factor * t.argument.den ^ fall h t.factor * over h ts

abbrev pub under : ℕ → List Term → ℕ
under h [] = 1
under h (t ∷ ts) =
    t.argument.den ^ rise h t.factor * positive_part t.argument.num ^ fall h t.factor * under h ts

-- the arguments are positive, and h is a common denominator of the factors
abbrev pub IsCommon : ℕ → List Term → Type 0
IsCommon h [] = 0 < h
IsCommon h (t ∷ ts) = IsPositive t.argument × IsWholeAt h t.factor × IsCommon h ts

-- h is the least common denominator
abbrev pub IsLeastCommon : ℕ → List Term → Type 0
IsLeastCommon h ts = IsCommon h ts × ((k : ℕ) → IsCommon k ts → h ≤ k)

-- the product of all a ^ f is at least 1, shown by its power to the least common denominator
pub record IsAtLeastOne (ts : List Term) : Type 0 where
  pub denominator : ℕ
  pub is_least : IsLeastCommon denominator ts
  pub holds : under denominator ts ≤ over denominator ts

pub record IsAtMostOne (ts : List Term) : Type 0 where
  pub denominator : ℕ
  pub is_least : IsLeastCommon denominator ts
  pub holds : over denominator ts ≤ under denominator ts

-- f as a term: f times the logarithm of 2
abbrev pub two_to : Fraction → Term
two_to f = record { factor = f; argument = whole (pos 2) }

-- s less r
abbrev pub terms_above : LogSum → Fraction → List Term
terms_above s r = two_to (difference s.rest r) ∷ s.terms

pub record AtLeast (s : LogSum) (r : Fraction) : Type 0 where
  pub product : IsAtLeastOne (terms_above s r)

pub record AtMost (s : LogSum) (r : Fraction) : Type 0 where
  pub product : IsAtMostOne (terms_above s r)

-- ---- log sums made of others
abbrev pub added : LogSum → LogSum → LogSum
added s t = record { terms = s.terms ++ t.terms; rest = sum_of s.rest t.rest }

abbrev pub scaled_terms : Fraction → List Term → List Term
scaled_terms c [] = []
scaled_terms c (t ∷ ts) = record { factor = product_of c t.factor; argument = t.argument } ∷ scaled_terms c ts

abbrev pub scaled : Fraction → LogSum → LogSum
scaled c s = record { terms = scaled_terms c s.terms; rest = product_of c s.rest }

abbrev pub opposite_terms : List Term → List Term
opposite_terms [] = []
opposite_terms (t ∷ ts) = record { factor = negated t.factor; argument = t.argument } ∷ opposite_terms ts

abbrev pub opposite : LogSum → LogSum
opposite s = record { terms = opposite_terms s.terms; rest = negated s.rest }

-- f times the logarithm of a
abbrev pub times_log : Fraction → Fraction → LogSum
times_log f a = record { terms = record { factor = f; argument = a } ∷ []; rest = whole (pos 0) }

-- the logarithm of a
abbrev pub log_of : Fraction → LogSum
log_of a = times_log (whole (pos 1)) a

-- a fraction alone
abbrev pub constant : Fraction → LogSum
constant f = record { terms = []; rest = f }

abbrev pub ratio : ℕ → ℕ → Fraction
ratio u v = record { num = pos u; den = v }
