-- Ring and order laws of whole numbers: scales, floors, ceilings, and products of values between ends.
use Rattle.std.proofs.Common.{◌≡◌, ℕ, zero, suc, ◌+◌, ◌-◌, ◌*◌, ◌/◌, ◌<◌, ℤ, pos, negsuc, ◌+ℤ◌, ◌*ℤ◌, neg_ℤ, ◌≤ℤ◌, ◌<ℤ◌, ◌⊎◌, arith, inl, inr, ap, sym, ◌∙◌}
use Rattle.std.proofs.lemmas.Int.{ints}
use Rattle.std.proofs.Math.IntN.{*ℤ_comm}
use Rattle.std.proofs.Math.Nat.{mul-le-mul_right, le_of_mul-le-mul_right, div-mul-le_self, lt-div-mul-add, add-mul-div_right, div-eq_of_lt, zero-div}
use borrow.Author.Differences.{up, down, product_is, sum_is_lem, neg_is, same_in, le_out, at_most_in}
use Rattle.log_laws.specs.Whole.{floor_over, ceil_over, ceil_quotient}

pub up-mul : (a b : ℤ) → up (a *ℤ b) ≡ up a * up b + down a * down b
up-mul a b = (product_is a b).0

pub down-mul : (a b : ℤ) → down (a *ℤ b) ≡ up a * down b + down a * up b
down-mul a b = (product_is a b).1

pub mul_assoc_ℤ : (a b c : ℤ) → (a *ℤ b) *ℤ c ≡ a *ℤ (b *ℤ c)
mul_assoc_ℤ a b c = same_in ((a *ℤ b) *ℤ c) (a *ℤ (b *ℤ c)) (simp (up-mul, down-mul) (omega arith))

pub mul_right_comm_ℤ : (a b c : ℤ) → (a *ℤ c) *ℤ b ≡ (a *ℤ b) *ℤ c
mul_right_comm_ℤ a b c = mul_assoc_ℤ a c b ∙ ap (λ (z : ℤ). a *ℤ z) (*ℤ_comm c b) ∙ sym (mul_assoc_ℤ a b c)

pub mul-add_ℤ : (a b c : ℤ) → a *ℤ (b +ℤ c) ≡ a *ℤ b +ℤ a *ℤ c
mul-add_ℤ a b c =
    omega (arith, ints, ap (λ n. up a * n) (sum_is_lem b c), ap (λ n. down a * n) (sum_is_lem b c))

pub swap_scales : (a c : ℤ) (q s : ℕ) → (a *ℤ pos q) *ℤ (c *ℤ pos s) ≡ (a *ℤ c) *ℤ pos (q * s)
swap_scales a c q s = same_in ((a *ℤ pos q) *ℤ (c *ℤ pos s)) ((a *ℤ c) *ℤ pos (q * s)) (simp (up-mul, down-mul) (omega arith))

-- scaling by a natural number keeps the order
pub mul-le_ℤ : (a b : ℤ) (n : ℕ) → a ≤ℤ b → (a *ℤ pos n) ≤ℤ (b *ℤ pos n)
mul-le_ℤ a b n h = omega (arith, ints, mul-le-mul_right n (le_out a b h))

-- a positive factor falls away
pub le_of_mul-le_ℤ : (a b : ℤ) (n : ℕ) → 0 < n → (a *ℤ pos n) ≤ℤ (b *ℤ pos n) → a ≤ℤ b
le_of_mul-le_ℤ a b n h l =
    let q = le_out (a *ℤ pos n) (b *ℤ pos n) l in
    at_most_in a b (le_of_mul-le-mul_right {k = n} (let x = product_is a (pos n) in let y = product_is b (pos n) in omega (arith, q, x, y)) h)

pub between : (a x b y : ℤ) → a ≤ℤ x → x ≤ℤ b →
    (((a *ℤ y) ≤ℤ (x *ℤ y)) × ((x *ℤ y) ≤ℤ (b *ℤ y))) ⊎ (((b *ℤ y) ≤ℤ (x *ℤ y)) × ((x *ℤ y) ≤ℤ (a *ℤ y)))
between a x b (pos n) h k = inl (mul-le_ℤ a x n h, mul-le_ℤ x b n k)
between a x b (negsuc n) h k =
    inr (omega (arith, ints, mul-le-mul_right (suc n) (le_out x b k)), omega (arith, ints, mul-le-mul_right (suc n) (le_out a x h)))

pub floor_over-le : (z : ℤ) (d : ℕ) → 0 < d → (floor_over z d *ℤ pos d) ≤ℤ z
floor_over-le (pos a) d h = omega (arith, ints, div-mul-le_self a d)
floor_over-le (negsuc a) d h = omega (arith, ints, lt-div-mul-add {a = a} h)

pub lt-floor_over : (z : ℤ) (d : ℕ) → 0 < d → z <ℤ (floor_over z d *ℤ pos d +ℤ pos d)
lt-floor_over (pos a) d h = omega (arith, ints, lt-div-mul-add {a = a} h)
lt-floor_over (negsuc a) d h = omega (arith, ints, div-mul-le_self a d)

pub neg-mul : (a b : ℤ) → neg_ℤ a *ℤ b ≡ neg_ℤ (a *ℤ b)
neg-mul a b = omega (arith, ints, ap (λ n. n * up b) (neg_is a).0, ap (λ n. n * down b) (neg_is a).0, ap (λ n. n * up b) (neg_is a).1, ap (λ n. n * down b) (neg_is a).1)

pub mul-neg : (a b : ℤ) → a *ℤ neg_ℤ b ≡ neg_ℤ (a *ℤ b)
mul-neg a b = rw (*ℤ_comm a (neg_ℤ b), *ℤ_comm a b) (neg-mul b a)

pub le-ceil_over : (z : ℤ) (d : ℕ) → 0 < d → z ≤ℤ (ceil_over z d *ℤ pos d)
le-ceil_over z d h = rw (neg-mul (floor_over (neg_ℤ z) d) (pos d)) (omega (arith, ints, floor_over-le (neg_ℤ z) d h))

pub add-mul_ℤ : (a b c : ℤ) → (a +ℤ b) *ℤ c ≡ a *ℤ c +ℤ b *ℤ c
add-mul_ℤ a b c = omega (arith, ints, ap (λ n. n * up c) (sum_is_lem a b), ap (λ n. n * down c) (sum_is_lem a b))

-- two scales in a row, in either order
pub scale_scale : (a : ℤ) (q s : ℕ) → (a *ℤ pos q) *ℤ pos s ≡ a *ℤ pos (q * s)
scale_scale a q s = same_in ((a *ℤ pos q) *ℤ pos s) (a *ℤ pos (q * s)) (simp (up-mul, down-mul) (omega arith))

pub scale_turned : (a : ℤ) (q s : ℕ) → (a *ℤ pos s) *ℤ pos q ≡ a *ℤ pos (q * s)
scale_turned a q s = same_in ((a *ℤ pos s) *ℤ pos q) (a *ℤ pos (q * s)) (simp (up-mul, down-mul) (omega arith))

pub add_above : (a b p r : ℤ) (q s : ℕ) → (a *ℤ pos q) ≤ℤ p → (b *ℤ pos s) ≤ℤ r → ((a +ℤ b) *ℤ pos (q * s)) ≤ℤ (p *ℤ pos s +ℤ r *ℤ pos q)
add_above a b p r q s h k =
    rw (add-mul_ℤ a b (pos (q * s)), ← scale_scale a q s, ← scale_turned b q s)
    (omega (arith, ints, mul-le_ℤ (a *ℤ pos q) p s h, mul-le_ℤ (b *ℤ pos s) r q k))

pub add_below : (a b p r : ℤ) (q s : ℕ) → p ≤ℤ (a *ℤ pos q) → r ≤ℤ (b *ℤ pos s) → (p *ℤ pos s +ℤ r *ℤ pos q) ≤ℤ ((a +ℤ b) *ℤ pos (q * s))
add_below a b p r q s h k =
    rw (add-mul_ℤ a b (pos (q * s)), ← scale_scale a q s, ← scale_turned b q s)
    (omega (arith, ints, mul-le_ℤ p (a *ℤ pos q) s h, mul-le_ℤ r (b *ℤ pos s) q k))

-- ---- the four products of the ends
pub ≤ℤ_trans : (a b c : ℤ) → a ≤ℤ b → b ≤ℤ c → a ≤ℤ c
≤ℤ_trans a b c h k = omega (arith, ints)

along_low : (e c y d m : ℤ) → c ≤ℤ y → y ≤ℤ d → m ≤ℤ (e *ℤ c) → m ≤ℤ (e *ℤ d) → m ≤ℤ (e *ℤ y)
along_low e c y d m h k mc md =
    elim (between c y d e h k) [
      | inl w ↦ rw (*ℤ_comm e y) (≤ℤ_trans m (c *ℤ e) (y *ℤ e) (rw *ℤ_comm mc) w.0)
      | inr w ↦ rw (*ℤ_comm e y) (≤ℤ_trans m (d *ℤ e) (y *ℤ e) (rw *ℤ_comm md) w.0)
    ]

along_high : (e c y d m : ℤ) → c ≤ℤ y → y ≤ℤ d → (e *ℤ c) ≤ℤ m → (e *ℤ d) ≤ℤ m → (e *ℤ y) ≤ℤ m
along_high e c y d m h k mc md =
    elim (between c y d e h k) [
      | inl w ↦ rw (*ℤ_comm e y) (≤ℤ_trans (y *ℤ e) (d *ℤ e) m w.1 (rw *ℤ_comm md))
      | inr w ↦ rw (*ℤ_comm e y) (≤ℤ_trans (y *ℤ e) (c *ℤ e) m w.1 (rw *ℤ_comm mc))
    ]

pub corner_low : (a x b c y d m : ℤ) → a ≤ℤ x → x ≤ℤ b → c ≤ℤ y → y ≤ℤ d →
    m ≤ℤ (a *ℤ c) → m ≤ℤ (a *ℤ d) → m ≤ℤ (b *ℤ c) → m ≤ℤ (b *ℤ d) → m ≤ℤ (x *ℤ y)
corner_low a x b c y d m ax xb cy yd ac ad bc bd =
    elim (between a x b y ax xb) [
      | inl w ↦ ≤ℤ_trans m (a *ℤ y) (x *ℤ y) (along_low a c y d m cy yd ac ad) w.0
      | inr w ↦ ≤ℤ_trans m (b *ℤ y) (x *ℤ y) (along_low b c y d m cy yd bc bd) w.0
    ]

pub corner_high : (a x b c y d m : ℤ) → a ≤ℤ x → x ≤ℤ b → c ≤ℤ y → y ≤ℤ d →
    (a *ℤ c) ≤ℤ m → (a *ℤ d) ≤ℤ m → (b *ℤ c) ≤ℤ m → (b *ℤ d) ≤ℤ m → (x *ℤ y) ≤ℤ m
corner_high a x b c y d m ax xb cy yd ac ad bc bd =
    elim (between a x b y ax xb) [
      | inl w ↦ ≤ℤ_trans (x *ℤ y) (b *ℤ y) m w.1 (along_high b c y d m cy yd bc bd)
      | inr w ↦ ≤ℤ_trans (x *ℤ y) (a *ℤ y) m w.1 (along_high a c y d m cy yd ac ad)
    ]

-- scaled: the least of the products of whole ends bounds the product of two quotients p/q and r/s
scaled_low : (e f m : ℤ) (q s : ℕ) → m ≤ℤ (e *ℤ f) → (m *ℤ pos (q * s)) ≤ℤ ((e *ℤ pos q) *ℤ (f *ℤ pos s))
scaled_low e f m q s h = rw (swap_scales e f q s) (mul-le_ℤ m (e *ℤ f) (q * s) h)

scaled_high : (e f m : ℤ) (q s : ℕ) → (e *ℤ f) ≤ℤ m → ((e *ℤ pos q) *ℤ (f *ℤ pos s)) ≤ℤ (m *ℤ pos (q * s))
scaled_high e f m q s h = rw (swap_scales e f q s) (mul-le_ℤ (e *ℤ f) m (q * s) h)

pub product_low : (a b c d m p r : ℤ) (q s k : ℕ) → 0 < k →
    (a *ℤ pos q) ≤ℤ p → p ≤ℤ (b *ℤ pos q) → (c *ℤ pos s) ≤ℤ r → r ≤ℤ (d *ℤ pos s) →
    m ≤ℤ (a *ℤ c) → m ≤ℤ (a *ℤ d) → m ≤ℤ (b *ℤ c) → m ≤ℤ (b *ℤ d) →
    (floor_over m k *ℤ pos (k * (q * s))) ≤ℤ (p *ℤ r)
product_low a b c d m p r q s k z ap pb cr rd ac ad bc bd =
    ≤ℤ_trans (floor_over m k *ℤ pos (k * (q * s))) (m *ℤ pos (q * s)) (p *ℤ r)
    (rw (← scale_scale (floor_over m k) k (q * s)) (mul-le_ℤ (floor_over m k *ℤ pos k) m (q * s) (floor_over-le m k z)))
    (corner_low (a *ℤ pos q) p (b *ℤ pos q) (c *ℤ pos s) r (d *ℤ pos s) (m *ℤ pos (q * s)) ap pb cr rd
    (scaled_low a c m q s ac) (scaled_low a d m q s ad) (scaled_low b c m q s bc) (scaled_low b d m q s bd))

pub product_high : (a b c d m p r : ℤ) (q s k : ℕ) → 0 < k →
    (a *ℤ pos q) ≤ℤ p → p ≤ℤ (b *ℤ pos q) → (c *ℤ pos s) ≤ℤ r → r ≤ℤ (d *ℤ pos s) →
    (a *ℤ c) ≤ℤ m → (a *ℤ d) ≤ℤ m → (b *ℤ c) ≤ℤ m → (b *ℤ d) ≤ℤ m →
    (p *ℤ r) ≤ℤ (ceil_over m k *ℤ pos (k * (q * s)))
product_high a b c d m p r q s k z ap pb cr rd ac ad bc bd =
    ≤ℤ_trans (p *ℤ r) (m *ℤ pos (q * s)) (ceil_over m k *ℤ pos (k * (q * s)))
    (corner_high (a *ℤ pos q) p (b *ℤ pos q) (c *ℤ pos s) r (d *ℤ pos s) (m *ℤ pos (q * s)) ap pb cr rd
    (scaled_high a c m q s ac) (scaled_high a d m q s ad) (scaled_high b c m q s bc) (scaled_high b d m q s bd))
    (rw (← scale_scale (ceil_over m k) k (q * s)) (mul-le_ℤ m (ceil_over m k *ℤ pos k) (q * s) (le-ceil_over m k z)))

-- a number scaled twice, where the scales have one product
pub scaled_same : (a : ℤ) (p W z Q : ℕ) → W * p ≡ z * Q → (a *ℤ pos p) *ℤ pos W ≡ (a *ℤ pos z) *ℤ pos Q
scaled_same a p W z Q h =
    same_in ((a *ℤ pos p) *ℤ pos W) ((a *ℤ pos z) *ℤ pos Q)
    (simp (up-mul, down-mul) (omega (arith, ap (λ (k : ℕ). up a * k) h, ap (λ (k : ℕ). down a * k) h)))

-- the ceiling of a quotient of numbers that aren't negative
pub ceil_over-pos : (a d : ℕ) → 0 < d → ceil_over (pos a) d ≡ pos (ceil_quotient a d)
ceil_over-pos zero d h = ap (λ n. neg_ℤ (pos n)) (zero-div d) ∙ ap pos (sym (nothing d h))
  where
    nothing : (d : ℕ) → 0 < d → ceil_quotient 0 d ≡ 0
    nothing d h = div-eq_of_lt (omega (arith, h))
ceil_over-pos (suc a) d h = ap pos (sym (one_more a d h))
  where
    one_more : (a d : ℕ) → 0 < d → ceil_quotient (suc a) d ≡ suc (a / d)
    one_more a d h =
        let e : suc a + (d - 1) ≡ a + 1 * d = omega (arith, h) in
        rw (e, add-mul-div_right a 1 h) (omega arith)
