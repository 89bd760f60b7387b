-- Amounts weighed: they add up to the size, some of them is above 0, and the plane at the feed is what their columns cost.
use Rattle.std.proofs.Common.{◌≡◌, ℕ, ◌<◌, ◌≤◌, ℤ, pos, ◌*ℤ◌, ◌≤ℤ◌, refl, ap, sym, ◌∙◌, arith}
use Rattle.std.proofs.Math.IntN.{*ℤ_comm}
use Rattle.std.proofs.Math.Nat.{mul-pos}
use Rattle.std.proofs.lemmas.Int.{ints}
use Rattle.log_laws.specs.Sums.{int_sum_below}
use Rattle.log_laws.proofs.Exports.{mul-le_ℤ, mul_assoc_ℤ, cancel, sum-same, sum-scaled, sum-swapped, sum-order, sum-nothing}
use Rattle.energy_surface.specs.Program.Solutions.{size, amount, slope}
use Rattle.exact_lp.proofs.Systems.{amounts_make, slopes_meet}

swap_three : (a w m : ℤ) → a *ℤ (w *ℤ m) ≡ w *ℤ (a *ℤ m)
swap_three a w m = sym (mul_assoc_ℤ a w m) ∙ ap (λ t. t *ℤ m) (*ℤ_comm a w) ∙ mul_assoc_ℤ w a m

-- rows that make a row, weighed component by component
pub weighed : (n : ℕ) (a : ℕ → ℤ) (m : ℕ → ℕ → ℤ) (s : ℤ) (x w : ℕ → ℤ) → ((i : ℕ) → i < n → int_sum_below n (λ k. a k *ℤ m k i) ≡ s *ℤ x i) →
    int_sum_below n (λ k. a k *ℤ int_sum_below n (λ i. w i *ℤ m k i)) ≡ s *ℤ int_sum_below n (λ i. w i *ℤ x i)
weighed n a m s x w h =
    sum-same n (λ k. a k *ℤ int_sum_below n (λ i. w i *ℤ m k i)) (λ k. int_sum_below n (λ i. w i *ℤ (a k *ℤ m k i)))
    (λ k _. sym (sum-scaled n (a k) (λ i. w i *ℤ m k i)) ∙ sum-same n (λ i. a k *ℤ (w i *ℤ m k i)) (λ i. w i *ℤ (a k *ℤ m k i)) (λ i _. swap_three (a k) (w i) (m k i)))
    ∙ sum-swapped n n (λ k i. w i *ℤ (a k *ℤ m k i))
    ∙ sum-same n (λ i. int_sum_below n (λ k. w i *ℤ (a k *ℤ m k i))) (λ i. s *ℤ (w i *ℤ x i))
    (λ i g. sum-scaled n (w i) (λ k. a k *ℤ m k i) ∙ ap (λ t. w i *ℤ t) (h i g) ∙ swap_three (w i) s (x i))
    ∙ sum-scaled n s (λ i. w i *ℤ x i)

one_times : (x : ℤ) → pos 1 *ℤ x ≡ x
one_times x = omega (arith, ints)

ones : (n : ℕ) (x : ℕ → ℤ) → int_sum_below n (λ i. pos 1 *ℤ x i) ≡ int_sum_below n x
ones n x = sum-same n (λ i. pos 1 *ℤ x i) x (λ i _. one_times (x i))

-- where every column weighs t
pub amounts_weigh : (n : ℕ) → 1 ≤ n → n ≤ 4 → (m : ℕ → ℕ → ℤ) (x : ℕ → ℤ) (t : ℤ) → ((k : ℕ) → k < n → int_sum_below n (m k) ≡ t) →
    int_sum_below n (λ k. amount n m x k *ℤ t) ≡ pos (size n m) *ℤ int_sum_below n x
amounts_weigh n low high m x t rows =
    sum-same n (λ k. amount n m x k *ℤ t) (λ k. amount n m x k *ℤ int_sum_below n (λ i. pos 1 *ℤ m k i))
    (λ k g. rw (ones n (m k), rows k g) refl)
    ∙ weighed n (amount n m x) m (pos (size n m)) x (λ i. pos 1) (amounts_make n low high m x)
    ∙ rw (ones n x) refl

-- none above 0 can't be
down_times : (a : ℤ) (t : ℕ) → a ≤ℤ pos 0 → (a *ℤ pos t) ≤ℤ pos 0
down_times a t h = omega (arith, ints, mul-le_ℤ a (pos 0) t h)

not_down : (s t : ℕ) → 0 < s → 0 < t → (pos s *ℤ pos t) ≤ℤ pos 0 → ⊥
not_down s t h g k = omega (arith, ints, mul-pos h g, k)

pub some_takes_part : (n : ℕ) → 1 ≤ n → n ≤ 4 → (m : ℕ → ℕ → ℤ) (x : ℕ → ℤ) (t : ℕ) → 0 < t → 0 < size n m →
    ((k : ℕ) → k < n → int_sum_below n (m k) ≡ pos t) → int_sum_below n x ≡ pos t →
    ((k : ℕ) → k < n → amount n m x k ≤ℤ pos 0) → ⊥
some_takes_part n low high m x t above spans rows row none =
    let order = sum-order n (λ k. amount n m x k *ℤ pos t) (λ k. pos 0) (λ k g. down_times (amount n m x k) t (none k g)) in
    not_down (size n m) t spans above (rw (amounts_weigh n low high m x (pos t) rows, row, sum-nothing n) at order)

-- ---- the plane at the feed
-- the plane at a row is the cost of the amounts that make it
pub plane_at_row : (n : ℕ) → 1 ≤ n → n ≤ 4 → (m : ℕ → ℕ → ℤ) (costs z : ℕ → ℤ) → 0 < size n m →
    int_sum_below n (λ k. amount n m z k *ℤ costs k) ≡ int_sum_below n (λ i. slope n m costs i *ℤ z i)
plane_at_row n low high m costs z spans =
    cancel (size n m) (int_sum_below n (λ k. amount n m z k *ℤ costs k)) (int_sum_below n (λ i. slope n m costs i *ℤ z i)) spans
    (sym (sum-scaled n (pos (size n m)) (λ k. amount n m z k *ℤ costs k))
    ∙ sum-same n (λ k. pos (size n m) *ℤ (amount n m z k *ℤ costs k)) (λ k. amount n m z k *ℤ int_sum_below n (λ i. slope n m costs i *ℤ m k i))
    (λ k g. swap_three (pos (size n m)) (amount n m z k) (costs k) ∙ ap (λ t. amount n m z k *ℤ t) (sym (slopes_meet n low high m costs k g)))
    ∙ weighed n (amount n m z) m (pos (size n m)) z (slope n m costs) (amounts_make n low high m z))
