-- The mean attraction over a box lies between its ends, and over the mean co-volume it is at most the greatest ratio of two
-- components, for any number of components.
use Rattle.std.proofs.Common.{◌≡◌, ℕ, zero, suc, ◌*◌, ◌<◌, ◌≤◌, arith, ℤ, pos, negsuc, ◌*ℤ◌, ◌≤ℤ◌, lit<}
use Rattle.std.proofs.lemmas.Int.{ints}
use Rattle.std.proofs.Math.Nat.{mul-le-mul_right}
use Rattle.log_laws.specs.Fraction.{Fraction}
use Rattle.log_laws.specs.Sums.{sum_below, int_sum_below}
use Rattle.log_laws.specs.Whole.{positive_part, floor_div, ceil_div}
use Rattle.log_laws.proofs.Exports.{le_of_mul-le_ℤ, mul-le_ℤ, add-mul_ℤ, floor_over-le, le-ceil_over, scale_scale, scale_turned, product_pos, ≤ℤ_trans}
use Rattle.case_types.specs.Arithmetic.Bounds.{one}
use Rattle.pr_params.proofs.Accepted.{floor_positive}
use Rattle.pr_params.proofs.Weighted.{IsOver, IsUnder, mean_by, mean_over, mean_under, over_less, under_greater}
use Rattle.pr_params.proofs.CovolumeRange.{natural_is}

-- ---- numbers z, each with a fraction x of one
abbrev pub shared_down : ℕ → (ℕ → ℕ) → (ℕ → ℤ) → ℤ
shared_down n x z = floor_div (int_sum_below n (λ i. pos (x i) *ℤ z i)) (pos one)

abbrev pub shared_up : ℕ → (ℕ → ℕ) → (ℕ → ℤ) → ℤ
shared_up n x z = ceil_div (int_sum_below n (λ i. pos (x i) *ℤ z i)) (pos one)

-- the numbers are naturals
abbrev AreNatural : ℕ → (ℕ → ℤ) → (ℕ → ℕ) → Type 0
AreNatural n z l = (i : ℕ) → i < n → z i ≡ pos (l i)

terms_below : (n : ℕ) (p x : ℕ → ℕ) (z : ℕ → ℤ) (l : ℕ → ℕ) (m : ℕ) → ((i : ℕ) → i < n → x i * m ≤ p i * one) → AreNatural n z l
    → (int_sum_below n (λ i. pos (x i) *ℤ z i) *ℤ pos m) ≤ℤ pos (sum_below n (λ i. p i * l i) * one)
unfolding int_sum_below
terms_below zero p x z l m h e = omega (arith, ints)
terms_below (suc n) p x z l m h e =
    let before = terms_below n p x z l m (λ i k. h i (omega (arith, k))) (λ i k. e i (omega (arith, k))) in
    let here = mul-le-mul_right (l n) (h n (omega arith)) in
    rw (e n (omega arith)) (omega (arith, ints, before, here, add-mul_ℤ (int_sum_below n (λ i. pos (x i) *ℤ z i)) (pos (x n) *ℤ pos (l n)) (pos m)))

terms_above : (n : ℕ) (p x : ℕ → ℕ) (z : ℕ → ℤ) (l : ℕ → ℕ) (m : ℕ) → ((i : ℕ) → i < n → p i * one ≤ x i * m) → AreNatural n z l
    → pos (sum_below n (λ i. p i * l i) * one) ≤ℤ (int_sum_below n (λ i. pos (x i) *ℤ z i) *ℤ pos m)
unfolding int_sum_below
terms_above zero p x z l m h e = omega (arith, ints)
terms_above (suc n) p x z l m h e =
    let before = terms_above n p x z l m (λ i k. h i (omega (arith, k))) (λ i k. e i (omega (arith, k))) in
    let here = mul-le-mul_right (l n) (h n (omega arith)) in
    rw (e n (omega arith)) (omega (arith, ints, before, here, add-mul_ℤ (int_sum_below n (λ i. pos (x i) *ℤ z i)) (pos (x n) *ℤ pos (l n)) (pos m)))

terms_positive : (n : ℕ) (x : ℕ → ℕ) (z : ℕ → ℤ) (l : ℕ → ℕ) → AreNatural n z l → pos 0 ≤ℤ int_sum_below n (λ i. pos (x i) *ℤ z i)
unfolding int_sum_below
terms_positive zero x z l e = omega (arith, ints)
terms_positive (suc n) x z l e =
    let before = terms_positive n x z l (λ i k. e i (omega (arith, k))) in
    rw (e n (omega arith)) (omega (arith, ints, before))

-- ---- what the mean has of them
pub shared_below : (n : ℕ) (p x : ℕ → ℕ) (z : ℕ → ℤ) (l : ℕ → ℕ) (m : ℕ) → ((i : ℕ) → i < n → x i * m ≤ p i * one) → AreNatural n z l
    → (shared_down n x z *ℤ pos m) ≤ℤ pos (sum_below n (λ i. p i * l i))
shared_below n p x z l m h e =
    let sum = sum_below n (λ i. p i * l i) in
    let w = shared_down n x z in
    let terms = int_sum_below n (λ i. pos (x i) *ℤ z i) in
    let q = mul-le_ℤ (w *ℤ pos one) terms m (floor_over-le terms one (lit< tt)) in
    let all = ≤ℤ_trans _ _ _ q (terms_below n p x z l m h e) in
    let k : ((w *ℤ pos m) *ℤ pos one) ≤ℤ (pos sum *ℤ pos one) = rw (scale_turned w one m) (rw (scale_scale w one m) at all) in
    le_of_mul-le_ℤ (w *ℤ pos m) (pos sum) one (lit< tt) k

pub shared_above : (n : ℕ) (p x : ℕ → ℕ) (z : ℕ → ℤ) (l : ℕ → ℕ) (m : ℕ) → ((i : ℕ) → i < n → p i * one ≤ x i * m) → AreNatural n z l
    → pos (sum_below n (λ i. p i * l i)) ≤ℤ (shared_up n x z *ℤ pos m)
shared_above n p x z l m h e =
    let sum = sum_below n (λ i. p i * l i) in
    let w = shared_up n x z in
    let terms = int_sum_below n (λ i. pos (x i) *ℤ z i) in
    let q = mul-le_ℤ terms (w *ℤ pos one) m (le-ceil_over terms one (lit< tt)) in
    let all = ≤ℤ_trans _ _ _ (terms_above n p x z l m h e) q in
    let k : (pos sum *ℤ pos one) ≤ℤ ((w *ℤ pos m) *ℤ pos one) = rw (scale_turned w one m) (rw (scale_scale w one m) at all) in
    le_of_mul-le_ℤ (pos sum) (w *ℤ pos m) one (lit< tt) k

-- ---- they aren't negative
pub shared_down_positive : (n : ℕ) (x : ℕ → ℕ) (z : ℕ → ℤ) (l : ℕ → ℕ) → AreNatural n z l → pos 0 ≤ℤ shared_down n x z
shared_down_positive n x z l e = floor_positive (int_sum_below n (λ i. pos (x i) *ℤ z i)) one (terms_positive n x z l e)

not_negative : (w : ℤ) (a m : ℕ) → 0 < m → pos a ≤ℤ (w *ℤ pos m) → pos 0 ≤ℤ w
not_negative (pos n) a m h k = omega (arith, ints)
not_negative (negsuc n) a m h k = absurd (omega (arith, ints, k, product_pos (suc n) m (omega arith) h))

pub shared_up_positive : (n : ℕ) (p x : ℕ → ℕ) (z : ℕ → ℤ) (l : ℕ → ℕ) (m : ℕ) → 0 < m → ((i : ℕ) → i < n → p i * one ≤ x i * m) → AreNatural n z l
    → pos 0 ≤ℤ shared_up n x z
shared_up_positive n p x z l m some h e = not_negative (shared_up n x z) (sum_below n (λ i. p i * l i)) m some (shared_above n p x z l m h e)

-- ---- a mean lies between them
pub mean_above : (n m s : ℕ) (p x : ℕ → ℕ) (z : ℕ → ℤ) (f : ℕ → Fraction) → 0 < m → 0 < s → ((i : ℕ) → i < n → x i * m ≤ p i * one)
    → ((i : ℕ) → i < n → pos 0 ≤ℤ z i) → ((i : ℕ) → i < n → IsOver (positive_part (z i)) s (f i))
    → IsOver (positive_part (shared_down n x z)) s (mean_by n m p f)
mean_above n m s p x z f some hs inside low h =
    let l : ℕ → ℕ = λ i. positive_part (z i) in
    let natural : AreNatural n z l = λ i k. natural_is (z i) (low i k) in
    let over = mean_over n m s p l f some hs h in
    let w = shared_down n x z in
    let less = over_less w (sum_below n (λ i. p i * l i)) m s (mean_by n m p f) some (shared_below n p x z l m inside natural) over in
    record { is_fraction = over.is_fraction; is = rw (natural_is w (shared_down_positive n x z l natural)) at less }

pub mean_below : (n m s : ℕ) (p x : ℕ → ℕ) (z : ℕ → ℤ) (f : ℕ → Fraction) → 0 < m → 0 < s → ((i : ℕ) → i < n → p i * one ≤ x i * m)
    → ((i : ℕ) → i < n → pos 0 ≤ℤ z i) → ((i : ℕ) → i < n → IsUnder (positive_part (z i)) s (f i))
    → IsUnder (positive_part (shared_up n x z)) s (mean_by n m p f)
mean_below n m s p x z f some hs inside low h =
    let l : ℕ → ℕ = λ i. positive_part (z i) in
    let natural : AreNatural n z l = λ i k. natural_is (z i) (low i k) in
    let under = mean_under n m s p l f some hs h in
    let w = shared_up n x z in
    let less = under_greater w (sum_below n (λ i. p i * l i)) m s (mean_by n m p f) some (shared_above n p x z l m inside natural) under in
    record { is_fraction = under.is_fraction; is = rw (natural_is w (shared_up_positive n p x z l m some inside natural)) at less }
