-- A share of an energy as the code computes it.
use Rattle.std.proofs.Common.{ℕ, suc, ◌+◌, ◌-◌, ◌*◌, ◌^◌, ◌<◌, ◌≤◌, ◌≡◌, ℤ, pos, negsuc, neg_ℤ, ◌+ℤ◌, ◌*ℤ◌, ◌≤ℤ◌, ◌<ℤ◌, arith, lit<}
use Rattle.std.proofs.lemmas.Int.{ints, clamps}
use Rattle.std.proofs.Math.Nat.{mul-le-mul_right, div-mul-le_self, lt-div-mul-add}
use Rattle.std.specs.Int.{int_max}
use borrow.Author.Differences.{product_is}
use Rattle.log_laws.specs.Whole.{ceil_quotient, ceil_over, floor_over}
use Rattle.log_laws.proofs.Exports.{lt-floor_over, floor_over-le, mul-add_ℤ, add-mul_ℤ, mul_assoc_ℤ}

-- ---- the greater of two shares of an energy
pub share_above_zero : (v V : ℕ) (u : ℤ) → v ≤ V → pos 0 ≤ℤ u → int_max (pos v *ℤ u) (pos V *ℤ u) ≡ pos V *ℤ u
share_above_zero v V (pos k) h l = omega (arith, ints, clamps, mul-le-mul_right k h)
share_above_zero v V (negsuc k) h l = absurd (omega (arith, ints))

pub share_below_zero : (v V : ℕ) (u : ℤ) → v ≤ V → u <ℤ pos 0 → int_max (pos v *ℤ u) (pos V *ℤ u) ≡ pos v *ℤ u
share_below_zero v V (pos k) h l = absurd (omega (arith, ints))
share_below_zero v V (negsuc k) h l =
    omega (arith, ints, clamps, product_is (pos v) (negsuc k), product_is (pos V) (negsuc k), mul-le-mul_right (suc k) h)

-- ---- a share of an energy from its whole part and what is left
-- a ceiling is the one whole number so far above
ceiling_is : (z k : ℤ) → z ≤ℤ (k *ℤ pos (2 ^ 60)) → (k *ℤ pos (2 ^ 60)) <ℤ (z +ℤ pos (2 ^ 60)) → k ≡ ceil_over z (2 ^ 60)
ceiling_is z k h l =
    let f = floor_over-le (neg_ℤ z) (2 ^ 60) (lit< tt) in
    let g = lt-floor_over (neg_ℤ z) (2 ^ 60) (lit< tt) in
    between z k (floor_over (neg_ℤ z) (2 ^ 60)) h l f g
  where
    between : (z k f : ℤ) → z ≤ℤ (k *ℤ pos (2 ^ 60)) → (k *ℤ pos (2 ^ 60)) <ℤ (z +ℤ pos (2 ^ 60)) →
        (f *ℤ pos (2 ^ 60)) ≤ℤ neg_ℤ z → neg_ℤ z <ℤ (f *ℤ pos (2 ^ 60) +ℤ pos (2 ^ 60)) → k ≡ neg_ℤ f
    between z k f h l a b = omega (arith, ints)

pub share_is : (s r : ℕ) (e w : ℤ) → pos r +ℤ w *ℤ pos (2 ^ 60) ≡ e → pos s *ℤ w +ℤ pos (ceil_quotient (s * r) (2 ^ 60)) ≡ ceil_over (pos s *ℤ e) (2 ^ 60)
share_is s r e w h =
    rw (← h, mul-add_ℤ (pos s) (pos r) (w *ℤ pos (2 ^ 60)), ← mul_assoc_ℤ (pos s) w (pos (2 ^ 60)))
    (let low : s * r ≤ ceil_quotient (s * r) (2 ^ 60) * 2 ^ 60 = (let l = lt-div-mul-add {a = s * r + (2 ^ 60 - 1)} {b = 2 ^ 60} (lit< tt) in omega (arith, l)) in
    let high : ceil_quotient (s * r) (2 ^ 60) * 2 ^ 60 < s * r + 2 ^ 60 = (let l = div-mul-le_self (s * r + (2 ^ 60 - 1)) (2 ^ 60) in omega (arith, l)) in
    joined (pos s *ℤ w) (s * r) (ceil_quotient (s * r) (2 ^ 60)) low high)
  where
    joined : (t : ℤ) (n q : ℕ) → n ≤ q * 2 ^ 60 → q * 2 ^ 60 < n + 2 ^ 60 → t +ℤ pos q ≡ ceil_over (pos n +ℤ t *ℤ pos (2 ^ 60)) (2 ^ 60)
    joined t n q low high =
        ceiling_is (pos n +ℤ t *ℤ pos (2 ^ 60)) (t +ℤ pos q) (omega (arith, ints, add-mul_ℤ t (pos q) (pos (2 ^ 60)))) (omega (arith, ints, add-mul_ℤ t (pos q) (pos (2 ^ 60))))
