-- Each parameter of an instance lies between the ends that are made from those of its roots.
use Rattle.std.proofs.Common.{◌≡◌, ℕ, ◌*◌, ◌<◌, ℤ, pos, neg_ℤ, ◌+ℤ◌, ◌-ℤ◌, ◌*ℤ◌, ◌≤ℤ◌, refl, arith}
use Rattle.std.specs.Int.{int_min, int_max}
use Rattle.std.proofs.lemmas.Int.{ints, clamps}
use Rattle.log_laws.specs.Between.{Ends, IsBetween}
use Rattle.log_laws.specs.Fraction.{Fraction, whole, sum_of, difference, product_of}
use Rattle.log_laws.specs.LogSum.{ratio}
use Rattle.log_laws.specs.Whole.{floor_over, ceil_over, floor_div, ceil_div}
use Rattle.log_laws.proofs.Exports.{product_pos}
use Rattle.log_laws.proofs.Exports.{mul_assoc_ℤ, mul-le_ℤ, floor_over-le, le-ceil_over, neg-mul, add-mul_ℤ, scale_scale, corner_low, corner_high}

-- ---- a fraction of whole numbers
pub quotient_within : (n d scale : ℕ) → 0 < d →
    IsBetween (record { lo = floor_div (pos (n * scale)) (pos d); hi = ceil_div (pos (n * scale)) (pos d) }) scale (ratio n d)
quotient_within n d scale h = record {
  is_fraction = h;
  above = floor_over-le (pos (n * scale)) d h;
  below = le-ceil_over (pos (n * scale)) d h;
}

-- ---- a straight line of a root
-- what is left of 1 above and below an end of the root
turned_low : (s q : ℕ) (t p : ℤ) → (t *ℤ pos q) ≤ℤ (p *ℤ pos s) → ((pos q -ℤ p) *ℤ pos s) ≤ℤ ((pos s -ℤ t) *ℤ pos q)
turned_low s q t p h =
    rw (add-mul_ℤ (pos q) (neg_ℤ p) (pos s), add-mul_ℤ (pos s) (neg_ℤ t) (pos q), neg-mul p (pos s), neg-mul t (pos q)) (omega (arith, ints, h))

turned_high : (s q : ℕ) (t p : ℤ) → (p *ℤ pos s) ≤ℤ (t *ℤ pos q) → ((pos s -ℤ t) *ℤ pos q) ≤ℤ ((pos q -ℤ p) *ℤ pos s)
turned_high s q t p h =
    rw (add-mul_ℤ (pos q) (neg_ℤ p) (pos s), add-mul_ℤ (pos s) (neg_ℤ t) (pos q), neg-mul p (pos s), neg-mul t (pos q)) (omega (arith, ints, h))

-- the slope times what is left, between its values at the ends
slope_low : (k m lo hi p : ℤ) (s q : ℕ) → (lo *ℤ pos q) ≤ℤ (p *ℤ pos s) → (p *ℤ pos s) ≤ℤ (hi *ℤ pos q) →
    m ≤ℤ (k *ℤ (pos s -ℤ lo)) → m ≤ℤ (k *ℤ (pos s -ℤ hi)) → (m *ℤ pos q) ≤ℤ (k *ℤ ((pos q -ℤ p) *ℤ pos s))
slope_low k m lo hi p s q above below ml mh =
    let l = rw (mul_assoc_ℤ k (pos s -ℤ lo) (pos q)) at (mul-le_ℤ m (k *ℤ (pos s -ℤ lo)) q ml) in
    let h = rw (mul_assoc_ℤ k (pos s -ℤ hi) (pos q)) at (mul-le_ℤ m (k *ℤ (pos s -ℤ hi)) q mh) in
    let same : k ≤ℤ k = omega (arith, ints) in
    corner_low k k k ((pos s -ℤ hi) *ℤ pos q) ((pos q -ℤ p) *ℤ pos s) ((pos s -ℤ lo) *ℤ pos q) (m *ℤ pos q) same same
    (turned_high s q hi p below) (turned_low s q lo p above) h l h l

slope_high : (k m lo hi p : ℤ) (s q : ℕ) → (lo *ℤ pos q) ≤ℤ (p *ℤ pos s) → (p *ℤ pos s) ≤ℤ (hi *ℤ pos q) →
    (k *ℤ (pos s -ℤ lo)) ≤ℤ m → (k *ℤ (pos s -ℤ hi)) ≤ℤ m → (k *ℤ ((pos q -ℤ p) *ℤ pos s)) ≤ℤ (m *ℤ pos q)
slope_high k m lo hi p s q above below ml mh =
    let l = rw (mul_assoc_ℤ k (pos s -ℤ lo) (pos q)) at (mul-le_ℤ (k *ℤ (pos s -ℤ lo)) m q ml) in
    let h = rw (mul_assoc_ℤ k (pos s -ℤ hi) (pos q)) at (mul-le_ℤ (k *ℤ (pos s -ℤ hi)) m q mh) in
    let same : k ≤ℤ k = omega (arith, ints) in
    corner_high k k k ((pos s -ℤ hi) *ℤ pos q) ((pos q -ℤ p) *ℤ pos s) ((pos s -ℤ lo) *ℤ pos q) (m *ℤ pos q) same same
    (turned_high s q hi p below) (turned_low s q lo p above) h l h l

-- 1 and the slope over d
line_low : (k m f p : ℤ) (s q d : ℕ) → (f *ℤ pos d) ≤ℤ m → (m *ℤ pos q) ≤ℤ (k *ℤ ((pos q -ℤ p) *ℤ pos s)) →
    ((pos s +ℤ f) *ℤ pos (d * q)) ≤ℤ ((pos (d * q) +ℤ k *ℤ (pos q -ℤ p)) *ℤ pos s)
line_low k m f p s q d floor slope =
    let g = mul-le_ℤ (f *ℤ pos d) m q floor in
    rw (add-mul_ℤ (pos s) f (pos (d * q)), ← scale_scale f d q, add-mul_ℤ (pos (d * q)) (k *ℤ (pos q -ℤ p)) (pos s), mul_assoc_ℤ k (pos q -ℤ p) (pos s))
    (omega (arith, ints, g, slope))

line_high : (k m f p : ℤ) (s q d : ℕ) → m ≤ℤ (f *ℤ pos d) → (k *ℤ ((pos q -ℤ p) *ℤ pos s)) ≤ℤ (m *ℤ pos q) →
    ((pos (d * q) +ℤ k *ℤ (pos q -ℤ p)) *ℤ pos s) ≤ℤ ((pos s +ℤ f) *ℤ pos (d * q))
line_high k m f p s q d ceil slope =
    let g = mul-le_ℤ m (f *ℤ pos d) q ceil in
    rw (add-mul_ℤ (pos s) f (pos (d * q)), ← scale_scale f d q, add-mul_ℤ (pos (d * q)) (k *ℤ (pos q -ℤ p)) (pos s), mul_assoc_ℤ k (pos q -ℤ p) (pos s))
    (omega (arith, ints, g, slope))

-- the fraction that is meant
times_one : (z : ℤ) → z *ℤ pos 1 ≡ z
times_one z = omega (arith, ints)

line_num : (k p : ℤ) (q n m : ℕ) → n ≡ m → q ≡ 1 * q → pos n +ℤ (k *ℤ (pos (1 * q) +ℤ neg_ℤ p *ℤ pos 1)) *ℤ pos 1 ≡ pos m +ℤ k *ℤ (pos q -ℤ p)
line_num k p q n m e g = rw (e, ← g, times_one (neg_ℤ p), times_one (k *ℤ (pos q +ℤ neg_ℤ p))) refl

-- a fraction spelled otherwise
respelled : (v : Ends) (s : ℕ) (f : Fraction) (n : ℤ) (d : ℕ) → f.num ≡ n → f.den ≡ d → IsBetween v s (record { num = n; den = d }) → IsBetween v s f
respelled v s f n d en ed h = record { is_fraction = rw ed h.is_fraction; above = rw (en, ed) h.above; below = rw (en, ed) h.below }

pub line_within : (k : ℤ) (t : Ends) (f : Fraction) (s d : ℕ) → 0 < d → IsBetween t s f →
    IsBetween (record {
      lo = pos s +ℤ floor_over (int_min (k *ℤ (pos s -ℤ t.lo)) (k *ℤ (pos s -ℤ t.hi))) d;
      hi = pos s +ℤ ceil_over (int_max (k *ℤ (pos s -ℤ t.lo)) (k *ℤ (pos s -ℤ t.hi))) d;
    }) s (sum_of (whole (pos 1)) (product_of (record { num = k; den = d }) (difference (whole (pos 1)) f)))
line_within k t f s d some h =
    let least = int_min (k *ℤ (pos s -ℤ t.lo)) (k *ℤ (pos s -ℤ t.hi)) in
    let most = int_max (k *ℤ (pos s -ℤ t.lo)) (k *ℤ (pos s -ℤ t.hi)) in
    let low = slope_low k least t.lo t.hi f.num s f.den h.above h.below (omega (arith, ints, clamps)) (omega (arith, ints, clamps)) in
    let high = slope_high k most t.lo t.hi f.num s f.den h.above h.below (omega (arith, ints, clamps)) (omega (arith, ints, clamps)) in
    respelled _ s _ (pos (d * f.den) +ℤ k *ℤ (pos f.den -ℤ f.num)) (d * f.den)
    (line_num k f.num f.den (1 * (d * (1 * f.den))) (d * f.den) (omega arith) (omega arith)) (omega arith)
    (record {
      is_fraction = product_pos d f.den some h.is_fraction;
      above = line_low k least (floor_over least d) f.num s f.den d (floor_over-le least d some) low;
      below = line_high k most (ceil_over most d) f.num s f.den d (le-ceil_over most d some) high;
    })
