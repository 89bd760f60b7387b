-- Sums, least and greatest values over the numbers below n.
use Rattle.std.specs.Prelude.{ℕ, zero, suc, ◌+◌, List, [], ◌∷◌, ◌++◌, Bool, true, ◌&&◌, ℤ, pos, ◌+ℤ◌}
use Rattle.std.specs.Int.{int_min, int_max}
use Rattle.log_laws.specs.Fraction.{Fraction, whole, sum_of}
use Rattle.log_laws.specs.LogSum.{LogSum, added, constant}

abbrev pub sum_below : ℕ → (ℕ → ℕ) → ℕ
sum_below zero f = 0
sum_below (suc n) f = sum_below n f + f n

unfoldable pub int_sum_below : ℕ → (ℕ → ℤ) → ℤ
int_sum_below zero f = pos 0
int_sum_below (suc n) f = int_sum_below n f +ℤ f n

unfoldable pub fraction_sum_below : ℕ → (ℕ → Fraction) → Fraction
fraction_sum_below zero f = whole (pos 0)
fraction_sum_below (suc n) f = sum_of (fraction_sum_below n f) (f n)

unfoldable pub log_sum_below : ℕ → (ℕ → LogSum) → LogSum
log_sum_below zero f = constant (whole (pos 0))
log_sum_below (suc n) f = added (log_sum_below n f) (f n)

-- the least of first and of f below n
unfoldable pub least_below : ℕ → (ℕ → ℤ) → ℤ → ℤ
least_below zero f first = first
least_below (suc n) f first = int_min (least_below n f first) (f n)

unfoldable pub greatest_below : ℕ → (ℕ → ℤ) → ℤ → ℤ
greatest_below zero f first = first
greatest_below (suc n) f first = int_max (greatest_below n f first) (f n)

abbrev pub all_below : ℕ → (ℕ → Bool) → Bool
all_below zero p = true
all_below (suc n) p = all_below n p && p n

-- f 0, f 1, .. below n
unfoldable pub list_below {ℓ} : {X : Type ℓ} → ℕ → (ℕ → X) → List X
list_below zero f = []
list_below (suc n) f = list_below n f ++ f n ∷ []
