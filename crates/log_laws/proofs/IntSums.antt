-- Sums of integers over an index: term by term, by a factor, in two orders.
use Rattle.std.proofs.Common.{◌≡◌, ℕ, zero, suc, ◌<◌, inl, inr, ℤ, pos, ◌+ℤ◌, ◌*ℤ◌, ◌≤ℤ◌, neg_ℤ, refl, arith, sym}
use Rattle.std.proofs.lemmas.Bool.{cases_lt}
use Rattle.std.proofs.lemmas.Int.{ints}
use Rattle.std.proofs.Math.IntN.{zero-*ℤ}
use Rattle.log_laws.proofs.Ring.{mul-add_ℤ, add-mul_ℤ, mul_right_comm_ℤ}
use Rattle.log_laws.specs.Sums.{sum_below, int_sum_below}

pub sum-same : (n : ℕ) (f g : ℕ → ℤ) → ((k : ℕ) → k < n → f k ≡ g k) → int_sum_below n f ≡ int_sum_below n g
unfolding int_sum_below
sum-same zero f g h = refl
sum-same (suc n) f g h = rw (sum-same n f g (λ k l. h k (omega arith)), h n (omega arith)) refl

neg_step : (a b : ℤ) → neg_ℤ a +ℤ neg_ℤ b ≡ neg_ℤ (a +ℤ b)
neg_step a b = omega (arith, ints)

pub sum-neg : (n : ℕ) (f : ℕ → ℤ) → int_sum_below n (λ k. neg_ℤ (f k)) ≡ neg_ℤ (int_sum_below n f)
unfolding int_sum_below
sum-neg zero f = refl
sum-neg (suc n) f = rw (sum-neg n f) (neg_step (int_sum_below n f) (f n))

add_step : (a b c d : ℤ) → (a +ℤ b) +ℤ (c +ℤ d) ≡ (a +ℤ c) +ℤ (b +ℤ d)
add_step a b c d = omega (arith, ints)

pub sum-added : (n : ℕ) (f g : ℕ → ℤ) → int_sum_below n (λ k. f k +ℤ g k) ≡ int_sum_below n f +ℤ int_sum_below n g
unfolding int_sum_below
sum-added zero f g = refl
sum-added (suc n) f g = rw (sum-added n f g) (add_step (int_sum_below n f) (int_sum_below n g) (f n) (g n))

pub times_nothing : (z : ℤ) → z *ℤ pos 0 ≡ pos 0
times_nothing z = omega (arith, ints)

pub sum-scaled : (n : ℕ) (z : ℤ) (f : ℕ → ℤ) → int_sum_below n (λ k. z *ℤ f k) ≡ z *ℤ int_sum_below n f
unfolding int_sum_below
sum-scaled zero z f = sym (times_nothing z)
sum-scaled (suc n) z f = rw (sum-scaled n z f, mul-add_ℤ z (int_sum_below n f) (f n)) refl

-- a factor of each weight
pub sum-times : (n : ℕ) (s z : ℕ → ℤ) (c : ℤ) → int_sum_below n (λ k. (s k *ℤ c) *ℤ z k) ≡ int_sum_below n (λ k. s k *ℤ z k) *ℤ c
unfolding int_sum_below
sum-times zero s z c = sym (zero-*ℤ c)
sum-times (suc n) s z c =
    rw (sum-times n s z c, mul_right_comm_ℤ (s n) (z n) c, ← add-mul_ℤ (int_sum_below n (λ k. s k *ℤ z k)) (s n *ℤ z n) c) refl

pub sum-nothing : (n : ℕ) → int_sum_below n (λ k. pos 0) ≡ pos 0
unfolding int_sum_below
sum-nothing zero = refl
sum-nothing (suc n) = rw (sum-nothing n) refl

pub sum-swapped : (n p : ℕ) (f : ℕ → ℕ → ℤ) → int_sum_below n (λ i. int_sum_below p (f i)) ≡ int_sum_below p (λ k. int_sum_below n (λ i. f i k))
unfolding int_sum_below
sum-swapped zero p f = sym (sum-nothing p)
sum-swapped (suc n) p f =
    rw (sum-swapped n p f, sum-added p (λ k. int_sum_below n (λ i. f i k)) (f n)) refl

pub sum-whole : (n : ℕ) (f : ℕ → ℕ) → int_sum_below n (λ k. pos (f k)) ≡ pos (sum_below n f)
unfolding int_sum_below
sum-whole zero f = refl
sum-whole (suc n) f = rw (sum-whole n f) refl

add_order : (a b c d : ℤ) → a ≤ℤ b → c ≤ℤ d → (a +ℤ c) ≤ℤ (b +ℤ d)
add_order a b c d h k = omega (arith, ints)

nothing_order : pos 0 ≤ℤ pos 0
nothing_order = omega (arith, ints)

pub sum-order : (n : ℕ) (f g : ℕ → ℤ) → ((k : ℕ) → k < n → f k ≤ℤ g k) → int_sum_below n f ≤ℤ int_sum_below n g
unfolding int_sum_below
sum-order zero f g h = nothing_order
sum-order (suc n) f g h = add_order _ _ _ _ (sum-order n f g (λ k l. h k (omega arith))) (h n (omega arith))

-- over a scale
pub sum-order_scaled : (n : ℕ) (f g : ℕ → ℤ) (d : ℕ) → ((k : ℕ) → k < n → (f k *ℤ pos d) ≤ℤ g k) → (int_sum_below n f *ℤ pos d) ≤ℤ int_sum_below n g
unfolding int_sum_below
sum-order_scaled zero f g d h = rw (zero-*ℤ (pos d)) nothing_order
sum-order_scaled (suc n) f g d h =
    rw (add-mul_ℤ (int_sum_below n f) (f n) (pos d))
    (add_order _ _ _ _ (sum-order_scaled n f g d (λ k l. h k (omega (arith, l)))) (h n (omega arith)))

-- ---- numbers that aren't negative
add_up : (a b : ℤ) → pos 0 ≤ℤ a → pos 0 ≤ℤ b → pos 0 ≤ℤ (a +ℤ b)
add_up a b h k = omega (arith, ints)

pub sum_up : (n : ℕ) (f : ℕ → ℤ) → ((i : ℕ) → i < n → pos 0 ≤ℤ f i) → pos 0 ≤ℤ int_sum_below n f
unfolding int_sum_below
sum_up zero f h = omega (arith, ints)
sum_up (suc n) f h = add_up (int_sum_below n f) (f n) (sum_up n f (λ i g. h i (omega (arith, g)))) (h n (omega arith))

last_of : (a b : ℤ) → pos 0 ≤ℤ a → b ≤ℤ (a +ℤ b)
last_of a b h = omega (arith, ints)

more_of : (a b c : ℤ) → c ≤ℤ a → pos 0 ≤ℤ b → c ≤ℤ (a +ℤ b)
more_of a b c h k = omega (arith, ints)

-- a summand is at most the sum
pub summand : (n : ℕ) (f : ℕ → ℤ) (j : ℕ) → j < n → ((i : ℕ) → i < n → pos 0 ≤ℤ f i) → f j ≤ℤ int_sum_below n f
unfolding int_sum_below
summand zero f j h up = absurd (omega (arith, h))
summand (suc n) f j h up =
    elim (cases_lt j n) [
      | inl less ↦ more_of (int_sum_below n f) (f n) (f j) (summand n f j less (λ i g. up i (omega (arith, g)))) (up n (omega arith))
      | inr more ↦ let e : j ≡ n = omega (arith, h, more) in rw e (last_of (int_sum_below n f) (f n) (sum_up n f (λ i g. up i (omega (arith, g)))))
    ]
