-- The extremes of the quotients of two intervals' values.
use Rattle.std.proofs.Common.{◌≡◌, ℕ, suc, ◌*◌, ◌<◌, ◌≤◌, ◌/◌, ℤ, pos, negsuc, neg_ℤ, ◌*ℤ◌, ◌≤ℤ◌, unsigned_abs, refl, arith, sym, ap, ◌∙◌}
use Rattle.std.specs.Int.{int_min, int_max}
use Rattle.std.proofs.lemmas.Int.{ints, clamps}
use Rattle.std.proofs.Math.Nat.{mul-le-mul_left, mul-le-mul_right, mul_assoc, div-mul-le_self, lt-div-mul-add, le_trans, zero-div}
use Rattle.std.proofs.lemmas.Nat.{le-div}
use Rattle.std.proofs.Math.IntN.{zero-*ℤ}
use Rattle.log_laws.specs.Whole.{floor_over, ceil_over, floor_div}
use Rattle.log_laws.proofs.Exports.{mul-le_ℤ, neg-mul, ≤ℤ_trans, scale_scale, scale_turned, floors_fall, floors_rise}

-- X over a number between b and c is at least the lesser of the floors at b and c
pub quotient_low : (X : ℤ) (b c r s : ℕ) → 0 < b → b * s ≤ r → r ≤ c * s →
    (int_min (floor_over X b) (floor_over X c) *ℤ pos r) ≤ℤ (X *ℤ pos s)
quotient_low (pos x) b c r s z h k =
    let m : ℤ = int_min (pos (x / b)) (pos (x / c)) in
    let f : x / c * r ≤ x * s = le_trans (mul-le-mul_left (x / c) k) (rw (← mul_assoc (x / c) c s) (mul-le-mul_right s (div-mul-le_self x c))) in
    ≤ℤ_trans (m *ℤ pos r) (pos (x / c) *ℤ pos r) (pos x *ℤ pos s) (mul-le_ℤ m (pos (x / c)) r (omega (arith, ints, clamps))) (omega (arith, ints, f))
quotient_low (negsuc x) b c r s z h k =
    let m : ℤ = int_min (negsuc (x / b)) (negsuc (x / c)) in
    let g : suc x ≤ suc (x / b) * b = omega (arith, lt-div-mul-add {a = x} z) in
    let f : suc x * s ≤ suc (x / b) * r = le_trans (rw (mul_assoc (suc (x / b)) b s) at (mul-le-mul_right s g)) (mul-le-mul_left (suc (x / b)) h) in
    ≤ℤ_trans (m *ℤ pos r) (negsuc (x / b) *ℤ pos r) (negsuc x *ℤ pos s) (mul-le_ℤ m (negsuc (x / b)) r (omega (arith, ints, clamps))) (omega (arith, ints, f))

pub max-neg : (u v : ℤ) → int_max (neg_ℤ u) (neg_ℤ v) ≡ neg_ℤ (int_min u v)
max-neg u v = omega (arith, ints, clamps)

pub quotient_high : (X : ℤ) (b c r s : ℕ) → 0 < b → b * s ≤ r → r ≤ c * s →
    (X *ℤ pos s) ≤ℤ (int_max (ceil_over X b) (ceil_over X c) *ℤ pos r)
quotient_high X b c r s z h k =
    let low = quotient_low (neg_ℤ X) b c r s z h k in
    let m : ℤ = int_min (floor_over (neg_ℤ X) b) (floor_over (neg_ℤ X) c) in
    rw (max-neg (floor_over (neg_ℤ X) b) (floor_over (neg_ℤ X) c), neg-mul m (pos r)) (omega (arith, ints, low, neg-mul X (pos s)))

-- the same where the dividend is a quotient too
pub quotients_low : (a p : ℤ) (k b c r q s : ℕ) → 0 < b → b * s ≤ r → r ≤ c * s → (a *ℤ pos q) ≤ℤ p →
    (int_min (floor_over (a *ℤ pos k) b) (floor_over (a *ℤ pos k) c) *ℤ pos (q * r)) ≤ℤ ((p *ℤ pos k) *ℤ pos s)
quotients_low a p k b c r q s z h g e =
    let X : ℤ = a *ℤ pos k in
    let m : ℤ = int_min (floor_over X b) (floor_over X c) in
    let one = mul-le_ℤ (m *ℤ pos r) (X *ℤ pos s) q (quotient_low X b c r s z h g) in
    let two = mul-le_ℤ ((a *ℤ pos q) *ℤ pos k) (p *ℤ pos k) s (mul-le_ℤ (a *ℤ pos q) p k e) in
    let t : (X *ℤ pos s) *ℤ pos q ≡ ((a *ℤ pos q) *ℤ pos k) *ℤ pos s =
    scale_turned X q s ∙ sym (scale_scale X q s) ∙ ap (λ y. y *ℤ pos s) (scale_turned a q k ∙ sym (scale_scale a q k)) in
    rw (← scale_turned m q r) (≤ℤ_trans ((m *ℤ pos r) *ℤ pos q) ((X *ℤ pos s) *ℤ pos q) ((p *ℤ pos k) *ℤ pos s) one (rw t two))

pub quotients_high : (a p : ℤ) (k b c r q s : ℕ) → 0 < b → b * s ≤ r → r ≤ c * s → p ≤ℤ (a *ℤ pos q) →
    ((p *ℤ pos k) *ℤ pos s) ≤ℤ (int_max (ceil_over (a *ℤ pos k) b) (ceil_over (a *ℤ pos k) c) *ℤ pos (q * r))
quotients_high a p k b c r q s z h g e =
    let X : ℤ = a *ℤ pos k in
    let m : ℤ = int_max (ceil_over X b) (ceil_over X c) in
    let one = mul-le_ℤ (X *ℤ pos s) (m *ℤ pos r) q (quotient_high X b c r s z h g) in
    let two = mul-le_ℤ (p *ℤ pos k) ((a *ℤ pos q) *ℤ pos k) s (mul-le_ℤ p (a *ℤ pos q) k e) in
    let t : (X *ℤ pos s) *ℤ pos q ≡ ((a *ℤ pos q) *ℤ pos k) *ℤ pos s =
    scale_turned X q s ∙ sym (scale_scale X q s) ∙ ap (λ y. y *ℤ pos s) (scale_turned a q k ∙ sym (scale_scale a q k)) in
    rw (← scale_turned m q r) (≤ℤ_trans ((p *ℤ pos k) *ℤ pos s) ((X *ℤ pos s) *ℤ pos q) ((m *ℤ pos r) *ℤ pos q) (rw t two) one)

-- ---- the lesser of the floors of two quotients, by the sign of the dividend
floor_by_greater : (z : ℤ) (b c : ℕ) → 0 < b → b ≤ c → pos 0 ≤ℤ z → int_min (floor_over z b) (floor_over z c) ≡ floor_over z c
floor_by_greater z b c h k n = omega (arith, ints, clamps, floors_fall z b c h k n)

floor_by_less : (z : ℤ) (b c : ℕ) → 0 < b → b ≤ c → z ≤ℤ pos 0 → int_min (floor_over z b) (floor_over z c) ≡ floor_over z b
floor_by_less z b c h k n = omega (arith, ints, clamps, floors_rise z b c h k n)

-- z times k over ends b and c
pub least_by_greater : (z b c : ℤ) (k : ℕ) → pos 1 ≤ℤ b → b ≤ℤ c → pos 0 ≤ℤ z → int_min (floor_div (z *ℤ pos k) b) (floor_div (z *ℤ pos k) c) ≡ floor_div (z *ℤ pos k) c
least_by_greater z b c k h o n =
    floor_by_greater (z *ℤ pos k) (unsigned_abs b) (unsigned_abs c) (omega (arith, ints, h)) (omega (arith, ints, h, o))
    (rw (zero-*ℤ (pos k)) at (mul-le_ℤ (pos 0) z k n))

pub least_by_less : (z b c : ℤ) (k : ℕ) → pos 1 ≤ℤ b → b ≤ℤ c → z ≤ℤ pos 0 → int_min (floor_div (z *ℤ pos k) b) (floor_div (z *ℤ pos k) c) ≡ floor_div (z *ℤ pos k) b
least_by_less z b c k h o n =
    floor_by_less (z *ℤ pos k) (unsigned_abs b) (unsigned_abs c) (omega (arith, ints, h)) (omega (arith, ints, h, o))
    (rw (zero-*ℤ (pos k)) at (mul-le_ℤ z (pos 0) k n))
