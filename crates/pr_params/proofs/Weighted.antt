-- Means of fractions by whole parts, and bounds of them by whole numbers over one scale.
use Rattle.std.proofs.Common.{ℕ, zero, suc, ◌+◌, ◌*◌, ◌<◌, ◌≤◌, arith, lit<, ℤ, pos, ◌*ℤ◌, ◌≤ℤ◌}
use Rattle.std.proofs.lemmas.Int.{ints}
use Rattle.std.proofs.Math.Nat.{mul-le-mul_right}
use Rattle.log_laws.specs.Fraction.{Fraction, IsAtMost, sum_of, product_of}
use Rattle.log_laws.specs.LogSum.{ratio}
use Rattle.log_laws.specs.Sums.{sum_below, fraction_sum_below}
use Rattle.log_laws.specs.Whole.{positive_part, negative_part}
use Rattle.log_laws.proofs.Exports.{parts_self, parts_ratio, parts_sum, parts_product, at_most_of_parts, parts_of_at_most, product_pos}
use Rattle.log_laws.proofs.Exports.{le_of_mul-le_ℤ, mul-le_ℤ, ≤ℤ_trans, scale_scale, scale_turned}

-- z over the scale is at most f
pub record IsOver (z scale : ℕ) (f : Fraction) : Type 0 where
  pub is_fraction : 0 < f.den
  pub is : IsAtMost (ratio z scale) f

-- f is at most z over the scale
pub record IsUnder (z scale : ℕ) (f : Fraction) : Type 0 where
  pub is_fraction : 0 < f.den
  pub is : IsAtMost f (ratio z scale)

-- the mean of the first n by parts of m
abbrev pub mean_by : ℕ → ℕ → (ℕ → ℕ) → (ℕ → Fraction) → Fraction
mean_by n m p f = fraction_sum_below n (λ i. product_of (ratio (p i) m) (f i))

-- ---- one term more
over_step : (t m s p z u v d a b e : ℕ) → t * d + v * (m * s) ≤ u * (m * s) → z * e + b * s ≤ a * s
    → (t + p * z) * (d * (m * e)) + (v * (m * e) + p * b * d) * (m * s) ≤ (u * (m * e) + p * a * d) * (m * s)
over_step t m s p z u v d a b e h k = omega (arith, mul-le-mul_right (m * e) h, mul-le-mul_right (p * d * m) k)

under_step : (t m s p z u v d a b e : ℕ) → u * (m * s) ≤ t * d + v * (m * s) → a * s ≤ z * e + b * s
    → (u * (m * e) + p * a * d) * (m * s) ≤ (t + p * z) * (d * (m * e)) + (v * (m * e) + p * b * d) * (m * s)
under_step t m s p z u v d a b e h k = omega (arith, mul-le-mul_right (m * e) h, mul-le-mul_right (p * d * m) k)

over_more : (t m s p z : ℕ) (f g : Fraction) → 0 < m → 0 < s → IsOver t (m * s) f → IsOver z s g
    → IsOver (t + p * z) (m * s) (sum_of f (product_of (ratio p m) g))
over_more t m s p z f g hm hs h k =
    let scale = product_pos m s hm hs in
    let a = parts_self f.num f.den h.is_fraction in
    let b = parts_self g.num g.den k.is_fraction in
    let all = parts_sum a (parts_product (parts_ratio p m hm) b) in
    let before = parts_of_at_most (parts_ratio t (m * s) scale) a h.is in
    let here = parts_of_at_most (parts_ratio z s hs) b k.is in
    let step = over_step t m s p z (positive_part f.num) (negative_part f.num) f.den (positive_part g.num) (negative_part g.num) g.den
    (omega (arith, before)) (omega (arith, here)) in
    record {
      is_fraction = all.den_pos;
      is = at_most_of_parts (parts_ratio (t + p * z) (m * s) scale) all (omega (arith, step));
    }

under_more : (t m s p z : ℕ) (f g : Fraction) → 0 < m → 0 < s → IsUnder t (m * s) f → IsUnder z s g
    → IsUnder (t + p * z) (m * s) (sum_of f (product_of (ratio p m) g))
under_more t m s p z f g hm hs h k =
    let scale = product_pos m s hm hs in
    let a = parts_self f.num f.den h.is_fraction in
    let b = parts_self g.num g.den k.is_fraction in
    let all = parts_sum a (parts_product (parts_ratio p m hm) b) in
    let before = parts_of_at_most a (parts_ratio t (m * s) scale) h.is in
    let here = parts_of_at_most b (parts_ratio z s hs) k.is in
    let step = under_step t m s p z (positive_part f.num) (negative_part f.num) f.den (positive_part g.num) (negative_part g.num) g.den
    (omega (arith, before)) (omega (arith, here)) in
    record {
      is_fraction = all.den_pos;
      is = at_most_of_parts all (parts_ratio (t + p * z) (m * s) scale) (omega (arith, step));
    }

-- ---- the mean is at least the mean of lower numbers, and at most that of greater ones
pub mean_over : (n m s : ℕ) (p z : ℕ → ℕ) (f : ℕ → Fraction) → 0 < m → 0 < s → ((i : ℕ) → i < n → IsOver (z i) s (f i))
    → IsOver (sum_below n (λ i. p i * z i)) (m * s) (mean_by n m p f)
unfolding fraction_sum_below
mean_over zero m s p z f hm hs h = record { is_fraction = lit< tt; is = omega (arith, ints) }
mean_over (suc n) m s p z f hm hs h =
    over_more (sum_below n (λ i. p i * z i)) m s (p n) (z n) (mean_by n m p f) (f n) hm hs
    (mean_over n m s p z f hm hs (λ i l. h i (omega (arith, l)))) (h n (omega arith))

pub mean_under : (n m s : ℕ) (p z : ℕ → ℕ) (f : ℕ → Fraction) → 0 < m → 0 < s → ((i : ℕ) → i < n → IsUnder (z i) s (f i))
    → IsUnder (sum_below n (λ i. p i * z i)) (m * s) (mean_by n m p f)
unfolding fraction_sum_below
mean_under zero m s p z f hm hs h = record { is_fraction = lit< tt; is = omega (arith, ints) }
mean_under (suc n) m s p z f hm hs h =
    under_more (sum_below n (λ i. p i * z i)) m s (p n) (z n) (mean_by n m p f) (f n) hm hs
    (mean_under n m s p z f hm hs (λ i l. h i (omega (arith, l)))) (h n (omega arith))

-- ---- a bound of the mean by a whole number over the scale of the terms
pub over_less : (w : ℤ) (z m s : ℕ) (f : Fraction) → 0 < m → (w *ℤ pos m) ≤ℤ pos z → IsOver z (m * s) f → (w *ℤ pos f.den) ≤ℤ (f.num *ℤ pos s)
over_less w z m s f hm h k =
    let q = mul-le_ℤ (w *ℤ pos m) (pos z) f.den h in
    let c : ((w *ℤ pos m) *ℤ pos f.den) ≤ℤ (f.num *ℤ pos (m * s)) = ≤ℤ_trans _ _ _ q k.is in
    let l : ((w *ℤ pos f.den) *ℤ pos m) ≤ℤ ((f.num *ℤ pos s) *ℤ pos m) =
    rw (scale_turned w m f.den, scale_turned f.num m s) (rw (scale_scale w m f.den) at c) in
    le_of_mul-le_ℤ (w *ℤ pos f.den) (f.num *ℤ pos s) m hm l

pub under_greater : (w : ℤ) (z m s : ℕ) (f : Fraction) → 0 < m → pos z ≤ℤ (w *ℤ pos m) → IsUnder z (m * s) f → (f.num *ℤ pos s) ≤ℤ (w *ℤ pos f.den)
under_greater w z m s f hm h k =
    let q = mul-le_ℤ (pos z) (w *ℤ pos m) f.den h in
    let c : (f.num *ℤ pos (m * s)) ≤ℤ ((w *ℤ pos m) *ℤ pos f.den) = ≤ℤ_trans _ _ _ k.is q in
    let l : ((f.num *ℤ pos s) *ℤ pos m) ≤ℤ ((w *ℤ pos f.den) *ℤ pos m) =
    rw (scale_turned w m f.den, scale_turned f.num m s) (rw (scale_scale w m f.den) at c) in
    le_of_mul-le_ℤ (f.num *ℤ pos s) (w *ℤ pos f.den) m hm l
