-- The slopes of a plane are at most 2^40 sizes, and so its entries are below 2^80.
use Rattle.std.proofs.Common.{◌≡◌, ℕ, zero, suc, ◌+◌, ◌*◌, ◌^◌, ◌/◌, ◌<◌, ◌≤◌, inl, inr, true, ℤ, pos, negsuc, neg_ℤ, ◌+ℤ◌, ◌-ℤ◌, ◌*ℤ◌, ◌≤ℤ◌, unsigned_abs, refl, ap, sym, ◌∙◌, arith}
use Rattle.std.specs.Prelude.{if◌then◌else◌, nat_eq}
use Rattle.std.proofs.Math.IntN.{*ℤ_comm}
use Rattle.std.proofs.Math.Nat.{mul-le-mul, div-lt_iff_lt-mul}
use Rattle.std.proofs.lemmas.Bool.{cases_lt, ne_eqb}
use Rattle.std.proofs.lemmas.Bool.Decides.{nat_tests}
use Rattle.std.proofs.lemmas.Int.{ints}
use Rattle.log_laws.specs.Sums.{int_sum_below}
use Rattle.log_laws.specs.Whole.{floor_over}
use Rattle.energy_surface.specs.Program.Solutions.{size, amount, slope, price}
use Rattle.log_laws.proofs.Exports.{natural, sum-nothing, sum-same, sum-scaled, times_nothing, summand, sum_up}
use Rattle.exact_lp.proofs.WeighedAmounts.{amounts_weigh, plane_at_row}
use Rattle.exact_lp.proofs.SlopeSteps.{gaps, cost_up, one_left, from_below, products_of}

-- ---- a sum with one number in it
all_nothing : (n : ℕ) (f : ℕ → ℤ) → ((k : ℕ) → k < n → f k ≡ pos 0) → int_sum_below n f ≡ pos 0
all_nothing n f h = sum-same n f (λ k. pos 0) h ∙ sum-nothing n

alone_step : (a b c : ℤ) → a ≡ pos 0 → b ≡ c → a +ℤ b ≡ c
alone_step a b c h k = omega (arith, ints, h, k)

last_step : (a b c : ℤ) → a ≡ c → b ≡ pos 0 → a +ℤ b ≡ c
last_step a b c h k = omega (arith, ints, h, k)

pub one_alone : (n : ℕ) (f : ℕ → ℤ) (i : ℕ) → i < n → ((k : ℕ) → k < n → (k ≡ i → ⊥) → f k ≡ pos 0) → int_sum_below n f ≡ f i
unfolding int_sum_below
one_alone zero f i h none = absurd (omega (arith, h))
one_alone (suc n) f i h none =
    elim (cases_lt i n) [
      | inl less ↦ last_step (int_sum_below n f) (f n) (f i) (one_alone n f i less (λ k g. none k (omega (arith, g)))) (none n (omega arith) (λ e. absurd (omega (arith, e, less))))
      | inr more ↦
          let e : i ≡ n = omega (arith, h, more) in
          alone_step (int_sum_below n f) (f n) (f i) (all_nothing n f (λ k g. none k (omega (arith, g)) (λ d. absurd (omega (arith, d, e, g))))) (ap f (sym e))
    ]

-- ---- a pure column of no negative price
own_number : (a : ℕ) → nat_eq a a ≡ true
own_number a = grind (arith, nat_tests)

pub pure_sum : (n : ℕ) (l x : ℕ → ℤ) (t i : ℕ) → i < n → ((k : ℕ) → k < n → x k ≡ pos (if nat_eq k i then t else 0)) → int_sum_below n (λ k. l k *ℤ x k) ≡ l i *ℤ pos t
pure_sum n l x t i h pure =
    one_alone n (λ k. l k *ℤ x k) i h (λ k g apart. rw (pure k g, ne_eqb k i apart) (times_nothing (l k)))
    ∙ rw (pure i h, own_number i) refl

under_cost : (s c h : ℕ) (cost y : ℤ) → unsigned_abs cost ≤ h → pos 0 ≤ℤ (pos s *ℤ cost -ℤ y) → y ≤ℤ pos (s * h)
under_cost s c h (pos a) y small up = omega (arith, ints, up, mul-le-mul (same s) small)
  where
    same : (x : ℕ) → x ≤ x
    same x = omega arith
under_cost s c h (negsuc a) y small up = omega (arith, ints, up)

pub slope_under : (n : ℕ) (m : ℕ → ℕ → ℤ) (costs x : ℕ → ℤ) (cost : ℤ) (h t i : ℕ) → i < n → ((k : ℕ) → k < n → x k ≡ pos (if nat_eq k i then t else 0)) →
    unsigned_abs cost ≤ h → pos 0 ≤ℤ price n m costs x cost → (slope n m costs i *ℤ pos t) ≤ℤ pos (size n m * h)
slope_under n m costs x cost h t i g pure small up =
    under_cost (size n m) 0 h cost (slope n m costs i *ℤ pos t) small (rw (pure_sum n (slope n m costs) x t i g pure) at up)

-- ---- the bound
weighed_whole : (p t s w : ℕ) → pos t *ℤ pos p ≡ pos s *ℤ pos w → p * t ≡ s * w
weighed_whole p t s w e = omega (arith, ints, e)

sized : (l : ℤ) (s z w : ℕ) → 1 ≤ z → w ≤ 2 ^ 20 → (l *ℤ pos (2 ^ 20)) ≤ℤ pos (s * 2 ^ 39) → neg_ℤ ((l *ℤ pos (2 ^ 20)) *ℤ pos z) ≤ℤ pos (2 * (s * 2 ^ 39 * w)) → unsigned_abs l ≤ 2 ^ 40 * s
sized (pos b) s z w h light up down = omega (arith, ints, up)
sized (negsuc b) s z w h light up down =
    omega (arith, from_below b (2 ^ 20) z (2 * (s * 2 ^ 39 * w)) h down, mul-le-mul (same (s * 2 ^ 39)) light)
  where
    same : (x : ℕ) → x ≤ x
    same x = omega arith

pub slope_bounded : (n : ℕ) → 1 ≤ n → n ≤ 4 → (m : ℕ → ℕ → ℤ) (costs : ℕ → ℤ) (z : ℕ → ℕ) (w j : ℕ) → j < n → 0 < size n m →
    ((k : ℕ) → k < n → int_sum_below n (m k) ≡ pos (2 ^ 20)) → int_sum_below n (λ i. pos (z i)) ≡ pos w → w ≤ 2 ^ 20 → 1 ≤ z j →
    ((k : ℕ) → k < n → pos 0 ≤ℤ amount n m (λ i. pos (z i)) k) → ((k : ℕ) → k < n → unsigned_abs (costs k) ≤ 2 ^ 39) →
    ((i : ℕ) → i < n → (slope n m costs i *ℤ pos (2 ^ 20)) ≤ℤ pos (size n m * 2 ^ 39)) →
    unsigned_abs (slope n m costs j) ≤ 2 ^ 40 * size n m
slope_bounded n low high m costs z w j h spans rows feed light live up small under =
    let s = size n m in
    let a = amount n m (λ i. pos (z i)) in
    let l = slope n m costs in
    let total = int_sum_below n a in
    let p = unsigned_abs total in
    let e : total ≡ pos p = natural total (sum_up n a up) in
    let weighs : int_sum_below n (λ k. a k *ℤ pos (2 ^ 20)) ≡ pos (2 ^ 20) *ℤ total =
    sum-same n (λ k. a k *ℤ pos (2 ^ 20)) (λ k. pos (2 ^ 20) *ℤ a k) (λ k _. *ℤ_comm (a k) (pos (2 ^ 20))) ∙ sum-scaled n (pos (2 ^ 20)) a in
    let same : p * 2 ^ 20 ≡ s * w =
    weighed_whole p (2 ^ 20) s w (ap (λ t. pos (2 ^ 20) *ℤ t) (sym e) ∙ sym weighs ∙ amounts_weigh n low high m (λ i. pos (z i)) (pos (2 ^ 20)) rows ∙ ap (λ t. pos s *ℤ t) feed) in
    let q = int_sum_below n (λ k. a k *ℤ costs k) in
    let paid : pos 0 ≤ℤ (q +ℤ pos (2 ^ 39) *ℤ pos p) = rw e at (cost_up n a costs (2 ^ 39) up small) in
    let most = summand n (λ i. (pos (s * 2 ^ 39) -ℤ l i *ℤ pos (2 ^ 20)) *ℤ pos (z i)) j h
    (λ i g. products_of (pos (s * 2 ^ 39) -ℤ l i *ℤ pos (2 ^ 20)) (z i) (l i *ℤ pos (2 ^ 20)) (s * 2 ^ 39) (under i g)) in
    let le = rw (gaps n (pos (s * 2 ^ 39)) (pos (2 ^ 20)) l (λ i. pos (z i)), feed, ← plane_at_row n low high m costs (λ i. pos (z i)) spans) at most in
    sized (l j) s (z j) w live light (under j h) (one_left s (2 ^ 20) (2 ^ 39) w p (z j) (l j) q le paid same)

-- ---- the entries of the plane
pub quotient_below : (a s limit : ℕ) → 0 < s → a < limit * s → a / s < limit
quotient_below a s limit h k = (div-lt_iff_lt-mul h).1 k

pub entry_below : (l : ℤ) (s : ℕ) → 0 < s → unsigned_abs l ≤ 2 ^ 40 * s → unsigned_abs (floor_over (l *ℤ pos (2 ^ 30)) s) < 2 ^ 80
entry_below l s h k = of_size (l *ℤ pos (2 ^ 30)) s h (omega (arith, ints, k))
  where
    of_size : (y : ℤ) (s : ℕ) → 0 < s → unsigned_abs y ≤ 2 ^ 70 * s → unsigned_abs (floor_over y s) < 2 ^ 80
    of_size (pos a) s h k = omega (arith, quotient_below a s (2 ^ 70 + 1) h (omega (arith, h, k)))
    of_size (negsuc a) s h k = omega (arith, quotient_below a s (2 ^ 70) h (omega (arith, h, k)))
