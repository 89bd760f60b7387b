-- Ends brought to 2^-40: rounded outward from a finer scale, and lifted.
use Rattle.std.proofs.Common.{ℕ, ◌+◌, ◌*◌, ◌^◌, ◌<◌, ◌≡◌, subst, arith, lit<, ℤ, pos, ◌*ℤ◌, ◌≤ℤ◌}
use Rattle.std.proofs.lemmas.Int.{ints}
use Rattle.std.proofs.lemmas.Nat.{pow-add, pow_pos}
use Rattle.log_laws.specs.Between.{Ends, IsBetween}
use Rattle.log_laws.specs.Fraction.{Fraction, product_of, whole}
use Rattle.log_laws.specs.LogSum.{ratio}
use Rattle.log_laws.specs.Whole.{floor_over, ceil_over}
use Rattle.log_laws.proofs.Exports.{floor_over-le, le-ceil_over, le_of_mul-le_ℤ, mul-le_ℤ, scale_scale, scale_turned, ≤ℤ_trans}
use Rattle.slope_form.specs.Forms.{point_ends}
use Rattle.tangent_bound.specs.SlopeLows.{outward}

-- over a scale of t times s, and over s
floor_below : (a z : ℤ) (t s k : ℕ) → 0 < t → (a *ℤ pos k) ≤ℤ (z *ℤ pos (s * t)) → (floor_over a t *ℤ pos k) ≤ℤ (z *ℤ pos s)
floor_below a z t s k pt h =
    let f = mul-le_ℤ (floor_over a t *ℤ pos t) a k (floor_over-le a t pt) in
    let g = rw (← scale_scale z s t) at h in
    le_of_mul-le_ℤ (floor_over a t *ℤ pos k) (z *ℤ pos s) t pt (rw (scale_turned (floor_over a t) t k, ← scale_scale (floor_over a t) t k) (≤ℤ_trans ((floor_over a t *ℤ pos t) *ℤ pos k) (a *ℤ pos k) ((z *ℤ pos s) *ℤ pos t) f g))

ceiling_above : (a z : ℤ) (t s k : ℕ) → 0 < t → (z *ℤ pos (s * t)) ≤ℤ (a *ℤ pos k) → (z *ℤ pos s) ≤ℤ (ceil_over a t *ℤ pos k)
ceiling_above a z t s k pt h =
    let f = mul-le_ℤ a (ceil_over a t *ℤ pos t) k (le-ceil_over a t pt) in
    let g = rw (← scale_scale z s t) at h in
    le_of_mul-le_ℤ (z *ℤ pos s) (ceil_over a t *ℤ pos k) t pt (rw (scale_turned (ceil_over a t) t k, ← scale_scale (ceil_over a t) t k) (≤ℤ_trans ((z *ℤ pos s) *ℤ pos t) (a *ℤ pos k) ((ceil_over a t *ℤ pos t) *ℤ pos k) g f))

pub outward_between : (shift : ℕ) (v : Ends) (f : Fraction) → IsBetween v (2 ^ 40 * 2 ^ shift) f → IsBetween (outward shift v) (2 ^ 40) f
outward_between shift v f b = record {
  is_fraction = b.is_fraction;
  above = floor_below v.lo f.num (2 ^ shift) (2 ^ 40) f.den (pow_pos shift) b.above;
  below = ceiling_above v.hi f.num (2 ^ shift) (2 ^ 40) f.den (pow_pos shift) b.below;
}

-- ---- lifted
pub lifted_between : (v : Ends) (s k : ℕ) (f : Fraction) → IsBetween v (s * k) f → IsBetween v s (product_of f (whole (pos k)))
lifted_between v s k f b =
    let e : f.den * 1 ≡ f.den = omega arith in
    let c : s * k ≡ k * s = omega arith in
    record {
      is_fraction = rw e b.is_fraction;
      above = rw (e, scale_scale f.num k s, ← c) b.above;
      below = rw (e, scale_scale f.num k s, ← c) b.below;
    }

-- ends over 2^(a + shift + lift), lifted
pub outward_lifted : (a shift lift : ℕ) (v : Ends) (f : Fraction) → a ≡ 40 + shift → IsBetween v (2 ^ (a + lift)) f → IsBetween (outward shift v) (2 ^ 40) (product_of f (whole (pos (2 ^ lift))))
outward_lifted a shift lift v f e b =
    let p : 2 ^ (a + lift) ≡ 2 ^ 40 * 2 ^ shift * 2 ^ lift = rw (pow-add 2 a lift, e, pow-add 2 40 shift) (omega arith) in
    outward_between shift v (product_of f (whole (pos (2 ^ lift)))) (lifted_between v (2 ^ 40 * 2 ^ shift) (2 ^ lift) f (subst (λ (s : ℕ). IsBetween v s f) p b))

-- ---- a point
pub point_between : (q : ℕ) → IsBetween (point_ends q) (2 ^ 40) (ratio q (2 ^ 40))
point_between q = record { is_fraction = lit< tt; above = omega (arith, ints); below = omega (arith, ints) }
