-- Positive scales on both sides of an order cancel; floors and ceilings keep an order.
use Rattle.std.proofs.Common.{◌≡◌, ℕ, ◌*◌, ◌<◌, ℤ, pos, ◌*ℤ◌, ◌≤ℤ◌, sym, ap, ◌∙◌}
use Rattle.log_laws.specs.Whole.{floor_over, ceil_over}
use Rattle.log_laws.proofs.Exports.{le_of_mul-le_ℤ, floor_over-le, le-ceil_over, ≤ℤ_trans, scale_scale, scale_turned, swap_scales}

-- the floor of the lesser is at most the ceiling of the greater
pub floor_over-le-ceil_over : (m n : ℤ) (k : ℕ) → 0 < k → m ≤ℤ n → floor_over m k ≤ℤ ceil_over n k
floor_over-le-ceil_over m n k h e =
    le_of_mul-le_ℤ (floor_over m k) (ceil_over n k) k h
    (≤ℤ_trans (floor_over m k *ℤ pos k) m (ceil_over n k *ℤ pos k) (floor_over-le m k h) (≤ℤ_trans m n (ceil_over n k *ℤ pos k) e (le-ceil_over n k h)))

-- two scales in a row, the other way round
pub scales_swapped : (a : ℤ) (q s : ℕ) → (a *ℤ pos q) *ℤ pos s ≡ (a *ℤ pos s) *ℤ pos q
scales_swapped a q s = scale_scale a q s ∙ sym (scale_turned a q s)

-- p times s and u times t, multiplied, are p times u times r, times k
product_scaled : (p u : ℤ) (s t r k : ℕ) → s * t ≡ r * k → (p *ℤ pos s) *ℤ (u *ℤ pos t) ≡ ((p *ℤ u) *ℤ pos r) *ℤ pos k
product_scaled p u s t r k e =
    swap_scales p u s t ∙ ap (λ (n : ℕ). (p *ℤ u) *ℤ pos n) e ∙ sym (scale_scale (p *ℤ u) r k)

-- a bound on a product over k * d at the scales s and t is one over d at the scale r
pub product_cancels_low : (n p u : ℤ) (k d s t r : ℕ) → 0 < k → s * t ≡ r * k →
    (n *ℤ pos (k * d)) ≤ℤ ((p *ℤ pos s) *ℤ (u *ℤ pos t)) → (n *ℤ pos d) ≤ℤ ((p *ℤ u) *ℤ pos r)
product_cancels_low n p u k d s t r z e h =
    le_of_mul-le_ℤ (n *ℤ pos d) ((p *ℤ u) *ℤ pos r) k z
    (rw (scale_turned n k d, ← product_scaled p u s t r k e) h)

pub product_cancels_high : (n p u : ℤ) (k d s t r : ℕ) → 0 < k → s * t ≡ r * k →
    ((p *ℤ pos s) *ℤ (u *ℤ pos t)) ≤ℤ (n *ℤ pos (k * d)) → ((p *ℤ u) *ℤ pos r) ≤ℤ (n *ℤ pos d)
product_cancels_high n p u k d s t r z e h =
    le_of_mul-le_ℤ ((p *ℤ u) *ℤ pos r) (n *ℤ pos d) k z
    (rw (scale_turned n k d, ← product_scaled p u s t r k e) h)
