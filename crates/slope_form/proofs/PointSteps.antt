-- The steps from the centre of a cell to a point of it, over one denominator.
use Rattle.std.proofs.Common.{ℕ, zero, suc, ◌+◌, ◌*◌, ◌^◌, ◌≤◌, ◌<◌, ◌≡◌, cond, ◌==◌, refl, sym, ap, ◌∙◌, arith, lit<, ℤ, pos, neg_ℤ, ◌+ℤ◌, ◌-ℤ◌, ◌*ℤ◌, ◌≤ℤ◌}
use Rattle.std.proofs.Math.IntN.{zero-*ℤ}
use Rattle.std.proofs.lemmas.Int.{ints}
use borrow.Author.Differences.{up, down, product_is}
use Rattle.log_laws.specs.Fraction.{IsSame, difference}
use Rattle.log_laws.specs.LogSum.{ratio}
use Rattle.log_laws.specs.Sums.{sum_below, int_sum_below}
use Rattle.log_laws.proofs.Exports.{add-mul_ℤ, mul-le_ℤ, neg-mul, over_den, parts_negated, parts_ratio, parts_self, parts_sum, product_pos, same_of_parts, scale_scale}
use Rattle.slope_form.specs.Meaning.{Steps}
use Rattle.slope_form.proofs.Coordinates.{other_place}

-- a / w less b / v, times w * v * k
abbrev pub gap : ℕ → ℕ → ℕ → ℕ → ℕ → ℤ
gap a w b v k = (pos (a * v) -ℤ pos (b * w)) *ℤ pos k

gap_parts : (a w b v k : ℕ) → up (gap a w b v k) + b * w * k ≡ down (gap a w b v k) + a * v * k
gap_parts a w b v k =
    numbers (a * v) (b * w) (up (pos (a * v) -ℤ pos (b * w))) (down (pos (a * v) -ℤ pos (b * w))) (up (gap a w b v k)) (down (gap a w b v k)) k
    (omega (arith, ints)) (omega (arith, product_is (pos (a * v) -ℤ pos (b * w)) (pos k)))
    (omega (arith, product_is (pos (a * v) -ℤ pos (b * w)) (pos k)))
  where
    numbers : (x y u d s t k : ℕ) → u + y ≡ d + x → s ≡ u * k → t ≡ d * k → s + y * k ≡ t + x * k
    numbers x y u d s t k e p q = let f : (u + y) * k ≡ (d + x) * k = ap (λ (n : ℕ). n * k) e in omega (arith, f, p, q)

pub gap_same : (a w b v k : ℕ) → 0 < w → 0 < v → 0 < k → IsSame (difference (ratio a w) (ratio b v)) (over_den (gap a w b v k) (w * v * k))
gap_same a w b v k pw pv pk =
    same_of_parts (parts_sum (parts_ratio a w pw) (parts_negated (parts_ratio b v pv)))
    (parts_self (gap a w b v k) (w * v * k) (product_pos (w * v) k (product_pos w v pw pv) pk))
    (numbers a w b v k (up (gap a w b v k)) (down (gap a w b v k)) (gap_parts a w b v k))
  where
    numbers : (a w b v k s t : ℕ) → s + b * w * k ≡ t + a * v * k →
        (a * v + 0 * w) * (w * v * k) + t * (w * v) ≡ s * (w * v) + (0 * v + b * w) * (w * v * k)
    numbers a w b v k s t e = let f : (s + b * w * k) * (w * v) ≡ (t + a * v * k) * (w * v) = ap (λ (n : ℕ). n * (w * v)) e in omega (arith, f)

-- from below and from above
pub gap_above : (l a w b v k : ℕ) → l * w ≤ a * v → ((pos l -ℤ pos b) *ℤ pos (w * v * k)) ≤ℤ (gap a w b v k *ℤ pos v)
gap_above l a w b v k h =
    let e : w * v * k ≡ w * (k * v) = omega arith in
    let x : ((pos l -ℤ pos b) *ℤ pos w) ≤ℤ (pos (a * v) -ℤ pos (b * w)) = rw (add-mul_ℤ (pos l) (neg_ℤ (pos b)) (pos w), neg-mul (pos b) (pos w))
    (omega (arith, ints, h)) in
    rw (e, scale_scale (pos (a * v) -ℤ pos (b * w)) k v, ← scale_scale (pos l -ℤ pos b) w (k * v))
    (mul-le_ℤ ((pos l -ℤ pos b) *ℤ pos w) (pos (a * v) -ℤ pos (b * w)) (k * v) x)

pub gap_below : (l a w b v k : ℕ) → a * v ≤ l * w → (gap a w b v k *ℤ pos v) ≤ℤ ((pos l -ℤ pos b) *ℤ pos (w * v * k))
gap_below l a w b v k h =
    let e : w * v * k ≡ w * (k * v) = omega arith in
    let x : (pos (a * v) -ℤ pos (b * w)) ≤ℤ ((pos l -ℤ pos b) *ℤ pos w) = rw (add-mul_ℤ (pos l) (neg_ℤ (pos b)) (pos w), neg-mul (pos b) (pos w))
    (omega (arith, ints, h)) in
    rw (e, scale_scale (pos (a * v) -ℤ pos (b * w)) k v, ← scale_scale (pos l -ℤ pos b) w (k * v))
    (mul-le_ℤ (pos (a * v) -ℤ pos (b * w)) ((pos l -ℤ pos b) *ℤ pos w) (k * v) x)

-- the gaps of all components add up to that of the sums
gaps_sum : (n : ℕ) (a b : ℕ → ℕ) (w v k : ℕ) → int_sum_below n (λ i. gap (a i) w (b i) v k) ≡ gap (sum_below n a) w (sum_below n b) v k
unfolding int_sum_below
gaps_sum zero a b w v k = none w v k
  where
    none : (w v k : ℕ) → pos 0 ≡ (pos (0 * v) -ℤ pos (0 * w)) *ℤ pos k
    none w v k = let e : 0 * v ≡ 0 = omega arith in let f : 0 * w ≡ 0 = omega arith in rw (e, f) (sym (zero-*ℤ (pos k)))
gaps_sum (suc n) a b w v k =
    rw (gaps_sum n a b w v k, ← add-mul_ℤ (pos (sum_below n a * v) -ℤ pos (sum_below n b * w)) (pos (a n * v) -ℤ pos (b n * w)) (pos k))
    (ap (λ (z : ℤ). z *ℤ pos k) (joined (sum_below n a) (a n) (sum_below n b) (b n)))
  where
    joined : (s a t b : ℕ) → (pos (s * v) -ℤ pos (t * w)) +ℤ (pos (a * v) -ℤ pos (b * w)) ≡ pos ((s + a) * v) -ℤ pos ((t + b) * w)
    joined s a t b = omega (arith, ints)

pub gaps_none : (n : ℕ) (a b : ℕ → ℕ) (w v k : ℕ) → sum_below n a ≡ w → sum_below n b ≡ v → int_sum_below n (λ i. gap (a i) w (b i) v k) ≡ pos 0
gaps_none n a b w v k e f =
    gaps_sum n a b w v k ∙ rw (e, f) (ap (λ (z : ℤ). z *ℤ pos k) (nothing w v)) ∙ zero-*ℤ (pos k)
  where
    nothing : (w v : ℕ) → pos (w * v) -ℤ pos (v * w) ≡ pos 0
    nothing w v = omega (arith, ints)

-- ---- the steps of a point: parts of w in all around the centre q, and a packing y / k around c, all of the centre in 2^-40
abbrev pub step_of : (ℕ → ℕ) → ℕ → (ℕ → ℕ) → ℕ → ℕ → ℕ → ℕ → ℤ
step_of p w q y k c j = cond (j == 3) (gap y k c (2 ^ 40) w) (gap (p j) w (q j) (2 ^ 40) k)

pub steps_of : (p : ℕ → ℕ) (w : ℕ) (q : ℕ → ℕ) (y k c : ℕ) → 0 < w → 0 < k → Steps
steps_of p w q y k c pw pk = record { den = w * 2 ^ 40 * k; positive = product_pos (w * 2 ^ 40) k (product_pos w (2 ^ 40) pw (lit< tt)) pk; step = step_of p w q y k c }

pub free_step : (p : ℕ → ℕ) (w : ℕ) (q : ℕ → ℕ) (y k c : ℕ) (j : ℕ) → j < 3 → step_of p w q y k c j ≡ gap (p j) w (q j) (2 ^ 40) k
free_step p w q y k c j h = rw (other_place 3 j h) refl

-- the packing's gap over the same denominator
pub packing_same : (y k c w : ℕ) → 0 < k → 0 < w →
    IsSame (difference (ratio y k) (ratio c (2 ^ 40))) (over_den (gap y k c (2 ^ 40) w) (w * 2 ^ 40 * k))
packing_same y k c w pk pw = let e : w * 2 ^ 40 * k ≡ k * 2 ^ 40 * w = omega arith in rw e (gap_same y k c (2 ^ 40) w pk (lit< tt) pw)
