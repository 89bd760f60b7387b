-- Sums over an index.
use Rattle.std.proofs.Common.{ℕ, zero, suc, ◌+◌, ◌-◌, ◌*◌, ◌<◌, ◌≤◌, ◌≡◌, inl, inr, refl, arith}
use Rattle.std.proofs.lemmas.Bool.{cases_lt}
use lib.IntN.{pos}
use Rattle.log_laws.specs.Fraction.{Fraction, whole}
use Rattle.log_laws.specs.Sums.{sum_below, int_sum_below, fraction_sum_below, log_sum_below}
use Rattle.log_laws.specs.Laws.{AtLeastSums}
use Rattle.log_laws.proofs.Parts.{IsParts, parts_self, parts_respelled, parts_sum_at}
use Rattle.log_laws.proofs.Terms.{over_den, lowered, at_least_adds_at, constant_at_least}

pub at_least_sums : AtLeastSums
unfolding log_sum_below int_sum_below
at_least_sums zero f z d h a =
    lowered (log_sum_below 0 f) (whole (pos 0)) (over_den (pos 0) d) (parts_self (pos 0) 1 (omega arith)) (parts_self (pos 0) d h) (omega arith)
    (constant_at_least (whole (pos 0)) (omega arith))
at_least_sums (suc n) f z d h a =
    at_least_adds_at (log_sum_below n f) (f n) (int_sum_below n z) (z n) d h
    (at_least_sums n f z d h (λ i l. a i (omega arith))) (a n (omega arith))

-- a sum of fractions over one denominator
pub parts_sum_below : (n : ℕ) (f : ℕ → Fraction) (u v : ℕ → ℕ) (d : ℕ) → 0 < d → ((i : ℕ) → i < n → IsParts (f i) (u i) (v i) d) →
    IsParts (fraction_sum_below n f) (sum_below n u) (sum_below n v) d
unfolding fraction_sum_below
parts_sum_below zero f u v d h a = parts_respelled (parts_self (pos 0) 1 (omega arith)) h (omega arith)
parts_sum_below (suc n) f u v d h a =
    parts_sum_at (parts_sum_below n f u v d h (λ i l. a i (omega arith))) (a n (omega arith))

-- ---- sums of whole numbers
pub sum_below-add : (n : ℕ) (p q : ℕ → ℕ) → sum_below n (λ i. p i + q i) ≡ sum_below n p + sum_below n q
sum_below-add zero p q = refl
sum_below-add (suc n) p q = omega (arith, sum_below-add n p q)

pub sum_below-none : (n : ℕ) → sum_below n (λ i. 0) ≡ 0
sum_below-none zero = refl
sum_below-none (suc n) = omega (arith, sum_below-none n)

-- term by term
pub sum_below-scaled : (n : ℕ) (p q : ℕ → ℕ) (M D : ℕ) → ((i : ℕ) → i < n → p i * M ≤ q i * D) → sum_below n p * M ≤ sum_below n q * D
sum_below-scaled zero p q M D h = omega arith
sum_below-scaled (suc n) p q M D h = omega (arith, sum_below-scaled n p q M D (λ i l. h i (omega (arith, l))), h n (omega arith))

pub sum_below-scaled_same : (n W Q : ℕ) (p z : ℕ → ℕ) → ((i : ℕ) → i < n → W * p i ≡ z i * Q) → sum_below n p * W ≡ sum_below n z * Q
sum_below-scaled_same zero W Q p z h = omega arith
sum_below-scaled_same (suc n) W Q p z h = omega (arith, sum_below-scaled_same n W Q p z (λ i l. h i (omega (arith, l))), h n (omega arith))

-- a part of a sum
pub sum_below-less : (n : ℕ) (p : ℕ → ℕ) → sum_below (n - 1) p ≤ sum_below n p
sum_below-less zero p = omega arith
sum_below-less (suc n) p = let e : suc n - 1 ≡ n = omega arith in rw e (omega arith)

pub le-sum_below : (n i : ℕ) (p : ℕ → ℕ) → i < n → p i ≤ sum_below n p
le-sum_below zero i p h = absurd (omega (arith, h))
le-sum_below (suc n) i p h =
    elim (cases_lt i n) [
      | inl l ↦ omega (arith, le-sum_below n i p l)
      | inr g ↦ let e : i ≡ n = omega (arith, g, h) in rw e (omega arith)
    ]
