-- The plane of a basis lies at most at the cost of a column that has no negative price.
use Rattle.std.proofs.Common.{◌≡◌, ℕ, ◌^◌, ◌<◌, ℤ, pos, ◌-ℤ◌, ◌*ℤ◌, ◌≤ℤ◌, ap, sym, ◌∙◌, arith}
use Rattle.std.proofs.Math.IntN.{*ℤ_comm}
use Rattle.std.proofs.lemmas.Int.{ints}
use Rattle.log_laws.specs.Sums.{int_sum_below}
use Rattle.log_laws.specs.Whole.{floor_over}
use Rattle.log_laws.proofs.Exports.{mul-le_ℤ, le_of_mul-le_ℤ, ≤ℤ_trans, mul_assoc_ℤ, floor_over-le, sum-scaled, sum-order, sum-same}
use Rattle.energy_surface.specs.Program.Solutions.{size, slope, price}

times_whole : (l x : ℤ) (s : ℕ) (y : ℕ) → (l *ℤ pos s) ≤ℤ x → (pos s *ℤ (l *ℤ pos y)) ≤ℤ (x *ℤ pos y)
times_whole l x s y h =
    let e : pos s *ℤ (l *ℤ pos y) ≡ (l *ℤ pos s) *ℤ pos y = sym (mul_assoc_ℤ (pos s) l (pos y)) ∙ ap (λ t. t *ℤ pos y) (*ℤ_comm (pos s) l) in
    rw e (mul-le_ℤ (l *ℤ pos s) x y h)

pub scale_out : (l : ℤ) (t y : ℕ) → (l *ℤ pos t) *ℤ pos y ≡ pos t *ℤ (l *ℤ pos y)
scale_out l t y = ap (λ z. z *ℤ pos y) (*ℤ_comm l (pos t)) ∙ mul_assoc_ℤ (pos t) l (pos y)

cancel_le : (s : ℕ) (a b : ℤ) → 0 < s → (pos s *ℤ a) ≤ℤ (pos s *ℤ b) → a ≤ℤ b
cancel_le s a b h k = le_of_mul-le_ℤ a b s h (rw (*ℤ_comm (pos s) a, *ℤ_comm (pos s) b) at k)

pub plane_under_cost : (n : ℕ) (m : ℕ → ℕ → ℤ) (costs : ℕ → ℤ) (x : ℕ → ℕ) (cost : ℤ) → 0 < size n m → pos 0 ≤ℤ price n m costs (λ i. pos (x i)) cost →
    int_sum_below n (λ i. floor_over (slope n m costs i *ℤ pos (2 ^ 30)) (size n m) *ℤ pos (x i)) ≤ℤ (pos (2 ^ 30) *ℤ cost)
plane_under_cost n m costs x cost spans up =
    let s = size n m in
    let l = slope n m costs in
    let lam = λ (i : ℕ). floor_over (l i *ℤ pos (2 ^ 30)) s in
    let each = sum-order n (λ i. pos s *ℤ (lam i *ℤ pos (x i))) (λ i. (l i *ℤ pos (2 ^ 30)) *ℤ pos (x i)) (λ i _. times_whole (lam i) (l i *ℤ pos (2 ^ 30)) s (x i) (floor_over-le (l i *ℤ pos (2 ^ 30)) s spans)) in
    let out : int_sum_below n (λ i. (l i *ℤ pos (2 ^ 30)) *ℤ pos (x i)) ≡ pos (2 ^ 30) *ℤ int_sum_below n (λ i. l i *ℤ pos (x i)) =
    sum-same n (λ i. (l i *ℤ pos (2 ^ 30)) *ℤ pos (x i)) (λ i. pos (2 ^ 30) *ℤ (l i *ℤ pos (x i))) (λ i _. scale_out (l i) (2 ^ 30) (x i)) ∙ sum-scaled n (pos (2 ^ 30)) (λ i. l i *ℤ pos (x i)) in
    let whole = rw (sum-scaled n (pos s) (λ i. lam i *ℤ pos (x i)), out) at each in
    let below : (pos (2 ^ 30) *ℤ int_sum_below n (λ i. l i *ℤ pos (x i))) ≤ℤ (pos s *ℤ (pos (2 ^ 30) *ℤ cost)) = raised (int_sum_below n (λ i. l i *ℤ pos (x i))) s cost up in
    cancel_le s (int_sum_below n (λ i. lam i *ℤ pos (x i))) (pos (2 ^ 30) *ℤ cost) spans (≤ℤ_trans (pos s *ℤ int_sum_below n (λ i. lam i *ℤ pos (x i))) (pos (2 ^ 30) *ℤ int_sum_below n (λ i. l i *ℤ pos (x i))) (pos s *ℤ (pos (2 ^ 30) *ℤ cost)) whole below)
  where
    swap : (s : ℕ) (cost : ℤ) → pos s *ℤ (pos (2 ^ 30) *ℤ cost) ≡ (pos s *ℤ cost) *ℤ pos (2 ^ 30)
    swap s cost = ap (λ t. pos s *ℤ t) (*ℤ_comm (pos (2 ^ 30)) cost) ∙ sym (mul_assoc_ℤ (pos s) cost (pos (2 ^ 30)))

    raised : (y : ℤ) (s : ℕ) (cost : ℤ) → pos 0 ≤ℤ (pos s *ℤ cost -ℤ y) → (pos (2 ^ 30) *ℤ y) ≤ℤ (pos s *ℤ (pos (2 ^ 30) *ℤ cost))
    raised y s cost h = rw (swap s cost, *ℤ_comm (pos (2 ^ 30)) y) (mul-le_ℤ y (pos s *ℤ cost) (2 ^ 30) (omega (arith, ints, h)))
