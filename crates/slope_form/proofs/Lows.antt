-- The low of a form: at every point of the cell the value is at least the value at the centre and the least change.
use Rattle.std.specs.Int.{int_min, w128}
use Rattle.std.proofs.Common.{ℕ, ◌*◌, ◌^◌, ◌<◌, ◌≡◌, sym, ap, ◌∙◌, arith, lit<, FitsSigned, to_z, of_z, unsigned_abs, ◌≤◌, ℤ, pos, ◌+ℤ◌, ◌*ℤ◌, ◌≤ℤ◌}
use Rattle.std.proofs.lemmas.Int.{ints, clamps, fits_signed_from_abs}
use Rattle.log_laws.specs.Between.{Ends}
use Rattle.log_laws.specs.Fraction.{sum_of}
use Rattle.log_laws.specs.Interval.{ends_of}
use Rattle.log_laws.specs.LogSum.{LogSum, AtLeast}
use Rattle.log_laws.specs.Sums.{int_sum_below}
use Rattle.log_laws.specs.Whole.{floor_over}
use Rattle.log_laws.specs.declared.iv.Iv.{Iv}
use Rattle.log_laws.proofs.Exports.{add-mul_ℤ, at_least_adds, at_least_lowers, back, cancel_rule, corner_low, floor_over-le, le_of_mul-le_ℤ, mul-le_ℤ, mul_assoc_ℤ, scale_scale, sum-order_scaled, ≤ℤ_trans}
use Rattle.fix_interval.specs.Extremes.{least_of_four}
use Rattle.fix_interval.proofs.Exports.{least_bounds}
use Rattle.slope_form.specs.Forms.{Form, slope_of}
use Rattle.slope_form.specs.Meaning.{AreStepsBetween, Steps, IsSloped, change, bits_of, least_change, least_step, low_of}
use Rattle.slope_form.proofs.Slopes.{AreOrdered}

-- one step, over the denominator n
step_low : (by : Ends) (a b z : ℤ) (n : ℕ) → by.lo ≤ℤ by.hi → (a *ℤ pos n) ≤ℤ (z *ℤ pos (2 ^ 40)) → (z *ℤ pos (2 ^ 40)) ≤ℤ (b *ℤ pos n) →
    (least_step by a b *ℤ pos n) ≤ℤ int_min (by.lo *ℤ z) (by.hi *ℤ z)
step_low by a b z n o l h =
    lesser (by.lo *ℤ z) (by.hi *ℤ z) (least_step by a b *ℤ pos n) (at_end by.lo (omega (arith, ints)) o) (at_end by.hi o (omega (arith, ints)))
  where
    lesser : (x y m : ℤ) → m ≤ℤ x → m ≤ℤ y → m ≤ℤ int_min x y
    lesser x y m p q = omega (arith, ints, clamps)

    scaled_corner : (x y m : ℤ) → m ≤ℤ (x *ℤ y) → (m *ℤ pos n) ≤ℤ (x *ℤ (y *ℤ pos n))
    scaled_corner x y m p = ≤ℤ_of (mul-le_ℤ m (x *ℤ y) n p) (mul_assoc_ℤ x y (pos n))
      where
        ≤ℤ_of : {u v w : ℤ} → u ≤ℤ v → v ≡ w → u ≤ℤ w
        ≤ℤ_of {u} {v} {w} p e = rw (← e) p

    at_end : (x : ℤ) → by.lo ≤ℤ x → x ≤ℤ by.hi → (least_step by a b *ℤ pos n) ≤ℤ (x *ℤ z)
    at_end x p q =
        let m = least_of_four (by.lo *ℤ a) (by.lo *ℤ b) (by.hi *ℤ a) (by.hi *ℤ b) in
        let f = floor_over m (2 ^ 40) in
        let c = least_bounds (by.lo *ℤ a) (by.lo *ℤ b) (by.hi *ℤ a) (by.hi *ℤ b) in
        let k = corner_low by.lo x by.hi (a *ℤ pos n) (z *ℤ pos (2 ^ 40)) (b *ℤ pos n) (m *ℤ pos n) p q l h
        (scaled_corner by.lo a m c.0) (scaled_corner by.lo b m c.1) (scaled_corner by.hi a m c.2) (scaled_corner by.hi b m c.3) in
        let g = mul-le_ℤ (f *ℤ pos (2 ^ 40)) m n (floor_over-le m (2 ^ 40) (lit< tt)) in
        let e : (f *ℤ pos n) *ℤ pos (2 ^ 40) ≡ (f *ℤ pos (2 ^ 40)) *ℤ pos n = turned f in
        le_of_mul-le_ℤ (f *ℤ pos n) (x *ℤ z) (2 ^ 40) (lit< tt)
        (rw (e, mul_assoc_ℤ x z (pos (2 ^ 40))) (≤ℤ_trans ((f *ℤ pos (2 ^ 40)) *ℤ pos n) (m *ℤ pos n) (x *ℤ (z *ℤ pos (2 ^ 40))) g k))
      where
        turned : (f : ℤ) → (f *ℤ pos n) *ℤ pos (2 ^ 40) ≡ (f *ℤ pos (2 ^ 40)) *ℤ pos n
        turned f = let e : n * 2 ^ 40 ≡ 2 ^ 40 * n = omega arith in scale_scale f n (2 ^ 40) ∙ ap (λ (k : ℕ). f *ℤ pos k) e
            ∙ sym (scale_scale f (2 ^ 40) n)

-- the value at a point whose steps lie from a to b
pub low_holds : (f : Form) (d : Steps) (u v : LogSum) (a b : ℕ → ℤ) → AreOrdered (slope_of f) → IsSloped f d u v → AreStepsBetween a b d →
    AtLeast v (bits_of (low_of f a b))
low_holds f d u v a b o s h =
    let sum = int_sum_below 4 (λ j. least_step (slope_of f j) (a j) (b j)) in
    let least = int_sum_below 4 (λ j. int_min ((slope_of f j).lo *ℤ d.step j) ((slope_of f j).hi *ℤ d.step j)) in
    let below = sum-order_scaled 4 (λ j. least_step (slope_of f j) (a j) (b j))
    (λ j. int_min ((slope_of f j).lo *ℤ d.step j) ((slope_of f j).hi *ℤ d.step j)) d.den
    (λ j l. step_low (slope_of f j) (a j) (b j) (d.step j) d.den (o j l) (h j l).0 (h j l).1) in
    let x = cancel_rule u v (sum_of (bits_of f.at.lo) (least_change (slope_of f) d))
    (at_least_adds u (change u v) (bits_of f.at.lo) (least_change (slope_of f) d) s.at.at_least s.at_least) in
    at_least_lowers v (sum_of (bits_of f.at.lo) (least_change (slope_of f) d)) (bits_of (low_of f a b)) (lit< tt)
    (joined f.at.lo sum least d.den below) x
  where
    joined : (l s t : ℤ) (n : ℕ) → (s *ℤ pos n) ≤ℤ t →
        ((l +ℤ s) *ℤ pos (2 ^ 40 * (2 ^ 40 * n))) ≤ℤ ((l *ℤ pos (2 ^ 40 * n) +ℤ t *ℤ pos (2 ^ 40)) *ℤ pos (2 ^ 40))
    joined l s t n p =
        let e : 2 ^ 40 * (2 ^ 40 * n) ≡ n * (2 ^ 40 * 2 ^ 40) = omega arith in
        let g : 2 ^ 40 * n * 2 ^ 40 ≡ n * (2 ^ 40 * 2 ^ 40) = omega arith in
        let q = mul-le_ℤ (s *ℤ pos n) t (2 ^ 40 * 2 ^ 40) p in
        rw (
          e,
          add-mul_ℤ l s (pos (n * (2 ^ 40 * 2 ^ 40))),
          add-mul_ℤ (l *ℤ pos (2 ^ 40 * n)) (t *ℤ pos (2 ^ 40)) (pos (2 ^ 40)),
          scale_scale l (2 ^ 40 * n) (2 ^ 40),
          scale_scale t (2 ^ 40) (2 ^ 40),
          g,
          ← scale_scale s n (2 ^ 40 * 2 ^ 40),
        ) (omega (arith, ints, q))

-- ---- as it is summed up
four_terms : (g : ℕ → ℤ) (l : ℤ) → l +ℤ (((g 0 +ℤ g 1) +ℤ g 2) +ℤ g 3) ≡ l +ℤ int_sum_below 4 g
unfolding int_sum_below
four_terms g l = plain l (g 0) (g 1) (g 2) (g 3)
  where
    plain : (l a b c d : ℤ) → l +ℤ (((a +ℤ b) +ℤ c) +ℤ d) ≡ l +ℤ ((((pos 0 +ℤ a) +ℤ b) +ℤ c) +ℤ d)
    plain l a b c d = omega (arith, ints)

pub low_is : (f : Form) (a b : ℕ → ℤ) (w x y z : ℤ) → w ≡ least_step (slope_of f 0) (a 0) (b 0) → x ≡ least_step (slope_of f 1) (a 1) (b 1) →
    y ≡ least_step (slope_of f 2) (a 2) (b 2) → z ≡ least_step (slope_of f 3) (a 3) (b 3) → f.at.lo +ℤ (((w +ℤ x) +ℤ y) +ℤ z) ≡ low_of f a b
low_is f a b w x y z p q r s = rw (p, q, r, s) (four_terms (λ j. least_step (slope_of f j) (a j) (b j)) f.at.lo)

pub sum_read : (l a b c d : ℤ) → unsigned_abs l < 2 ^ 62 → unsigned_abs a ≤ 2 ^ 84 → unsigned_abs b ≤ 2 ^ 84 → unsigned_abs c ≤ 2 ^ 84 →
    unsigned_abs d ≤ 2 ^ 84 →
    to_z w128 (of_z w128 (to_z w128 (of_z w128 l) +ℤ to_z w128 (of_z w128 (to_z w128 (of_z w128 (to_z w128 (of_z w128 (to_z w128 (of_z w128 a) +ℤ to_z w128 (of_z w128 b))) +ℤ to_z w128 (of_z w128 c))) +ℤ to_z w128 (of_z w128 d)))))
    ≡ l +ℤ (((a +ℤ b) +ℤ c) +ℤ d)
sum_read l a b c d hl ha hb hc hd =
    let two : unsigned_abs (a +ℤ b) ≤ 2 ^ 85 = omega (arith, ints, ha, hb) in
    let three : unsigned_abs ((a +ℤ b) +ℤ c) ≤ 2 ^ 86 = omega (arith, ints, two, hc) in
    let four : unsigned_abs (((a +ℤ b) +ℤ c) +ℤ d) ≤ 2 ^ 87 = omega (arith, ints, three, hd) in
    let all : unsigned_abs (l +ℤ (((a +ℤ b) +ℤ c) +ℤ d)) ≤ 2 ^ 88 = omega (arith, ints, four, hl) in
    rw (
      back a (omega (arith, ha)),
      back b (omega (arith, hb)),
      back (a +ℤ b) (omega (arith, two)),
      back c (omega (arith, hc)),
      back ((a +ℤ b) +ℤ c) (omega (arith, three)),
      back d (omega (arith, hd)),
      back (((a +ℤ b) +ℤ c) +ℤ d) (omega (arith, four)),
      back l (omega (arith, hl)),
    ) (back (l +ℤ (((a +ℤ b) +ℤ c) +ℤ d)) (omega (arith, all)))

pub sum_small : (l a b c d : ℤ) → unsigned_abs l < 2 ^ 62 → unsigned_abs a ≤ 2 ^ 84 → unsigned_abs b ≤ 2 ^ 84 → unsigned_abs c ≤ 2 ^ 84 →
    unsigned_abs d ≤ 2 ^ 84 → unsigned_abs (l +ℤ (((a +ℤ b) +ℤ c) +ℤ d)) ≤ 2 ^ 88
sum_small l a b c d hl ha hb hc hd =
    let two : unsigned_abs (a +ℤ b) ≤ 2 ^ 85 = omega (arith, ints, ha, hb) in
    let three : unsigned_abs ((a +ℤ b) +ℤ c) ≤ 2 ^ 86 = omega (arith, ints, two, hc) in
    let four : unsigned_abs (((a +ℤ b) +ℤ c) +ℤ d) ≤ 2 ^ 87 = omega (arith, ints, three, hd) in
    omega (arith, ints, four, hl)

pub sum_fits : (l a b c d : ℤ) → unsigned_abs l < 2 ^ 62 → unsigned_abs a ≤ 2 ^ 84 → unsigned_abs b ≤ 2 ^ 84 → unsigned_abs c ≤ 2 ^ 84 →
    unsigned_abs d ≤ 2 ^ 84 →
    FitsSigned w128 (to_z w128 (of_z w128 l) +ℤ to_z w128 (of_z w128 (to_z w128 (of_z w128 (to_z w128 (of_z w128 (to_z w128 (of_z w128 a) +ℤ to_z w128 (of_z w128 b))) +ℤ to_z w128 (of_z w128 c))) +ℤ to_z w128 (of_z w128 d))))
sum_fits l a b c d hl ha hb hc hd =
    let two : unsigned_abs (a +ℤ b) ≤ 2 ^ 85 = omega (arith, ints, ha, hb) in
    let three : unsigned_abs ((a +ℤ b) +ℤ c) ≤ 2 ^ 86 = omega (arith, ints, two, hc) in
    let four : unsigned_abs (((a +ℤ b) +ℤ c) +ℤ d) ≤ 2 ^ 87 = omega (arith, ints, three, hd) in
    let all : unsigned_abs (l +ℤ (((a +ℤ b) +ℤ c) +ℤ d)) ≤ 2 ^ 88 = omega (arith, ints, four, hl) in
    rw (
      back a (omega (arith, ha)),
      back b (omega (arith, hb)),
      back (a +ℤ b) (omega (arith, two)),
      back c (omega (arith, hc)),
      back ((a +ℤ b) +ℤ c) (omega (arith, three)),
      back d (omega (arith, hd)),
      back (((a +ℤ b) +ℤ c) +ℤ d) (omega (arith, four)),
      back l (omega (arith, hl)),
    ) (fits_signed_from_abs w128 (l +ℤ (((a +ℤ b) +ℤ c) +ℤ d)) (omega (arith, all)))

-- one step, from the entries of the arrays
pub step_is : (f f' s s' : Iv) (by range : Ends) (x : ℤ) → f ≡ f' → s ≡ s' → ends_of f ≡ by → ends_of s ≡ range →
    x ≡ least_step (ends_of f') s'.lo s'.hi → x ≡ least_step by range.lo range.hi
step_is f f' s s' by range x p q e g h =
    let e' : ends_of f' ≡ by = ap ends_of (sym p) ∙ e in
    let g' : ends_of s' ≡ range = ap ends_of (sym q) ∙ g in
    rw (← e', ← g') h
