-- The root of alpha as the code computes it.
use Rattle.std.proofs.Common.{◌≡◌, ℕ, ◌+◌, ◌*◌, ◌<◌, ◌≤◌, ◌^◌, ℤ, pos, ◌+ℤ◌, ◌-ℤ◌, ◌*ℤ◌, neg_ℤ, ◌≤ℤ◌, ◌<ℤ◌, ◌-◌, unsigned_abs, arith, refl, lit<, to_z, of_z}
use Rattle.std.specs.Prelude.{Bool, true, false, int_le, int_lt, if◌then◌else◌}
use Rattle.std.specs.Int.{int_min, int_max, w128}
use Rattle.std.proofs.lemmas.Nat.{mul-lt}
use Rattle.std.proofs.lemmas.Int.{unsigned_abs-mul, ints, clamps}
use Rattle.log_laws.specs.Whole.{floor_over, ceil_over}
use Rattle.log_laws.proofs.Exports.{back, product_at_most, product_read, abs_within}
use Rattle.case_types.specs.declared.cases.Edition.{Edition}
use Rattle.case_types.specs.declared.cases.Edition.TheVariants.{Y1976, Y1978}
use Rattle.case_types.specs.Energy.Parameters.{kappa_of, kappa_1976, kappa_1978, kappa_scale, parabola}

scaled_value : (k t x : ℤ) → unsigned_abs k < 2 ^ 62 → unsigned_abs t < 2 ^ 53 → x ≡ to_z w128 (of_z w128 k) *ℤ (pos (2 ^ 48) -ℤ to_z w128 (of_z w128 t)) →
    x ≡ k *ℤ (pos (2 ^ 48) -ℤ t)
scaled_value k t x h g e = rw (back k (omega (arith, h)), back t (omega (arith, g))) at e

pub lo_value : (k tl th x y m f : ℤ) → unsigned_abs k < 2 ^ 62 → unsigned_abs tl < 2 ^ 53 → unsigned_abs th < 2 ^ 53 →
    x ≡ to_z w128 (of_z w128 k) *ℤ (pos (2 ^ 48) -ℤ to_z w128 (of_z w128 tl)) → unsigned_abs x < 2 ^ 115 →
    y ≡ to_z w128 (of_z w128 k) *ℤ (pos (2 ^ 48) -ℤ to_z w128 (of_z w128 th)) → unsigned_abs y < 2 ^ 115 →
    m ≡ int_min (to_z w128 (of_z w128 x)) (to_z w128 (of_z w128 y)) → f ≡ floor_over (to_z w128 (of_z w128 m)) kappa_scale →
    f ≡ floor_over (int_min (k *ℤ (pos (2 ^ 48) -ℤ tl)) (k *ℤ (pos (2 ^ 48) -ℤ th))) kappa_scale
lo_value k tl th x y m f hk hl hh ex sx ey sy em ef =
    let e : m ≡ int_min x y = rw (back x (omega (arith, sx)), back y (omega (arith, sy))) at em in
    let s : unsigned_abs (int_min x y) < 2 ^ 115 = omega (arith, ints, clamps, sx, sy) in
    let g : f ≡ floor_over (int_min x y) kappa_scale = rw (e, back (int_min x y) (omega (arith, s))) at ef in
    rw (scaled_value k tl x hk hl ex, scaled_value k th y hk hh ey) at g

pub hi_value : (k tl th x y m f : ℤ) → unsigned_abs k < 2 ^ 62 → unsigned_abs tl < 2 ^ 53 → unsigned_abs th < 2 ^ 53 →
    x ≡ to_z w128 (of_z w128 k) *ℤ (pos (2 ^ 48) -ℤ to_z w128 (of_z w128 tl)) → unsigned_abs x < 2 ^ 115 →
    y ≡ to_z w128 (of_z w128 k) *ℤ (pos (2 ^ 48) -ℤ to_z w128 (of_z w128 th)) → unsigned_abs y < 2 ^ 115 →
    m ≡ int_max (to_z w128 (of_z w128 x)) (to_z w128 (of_z w128 y)) → f ≡ ceil_over (to_z w128 (of_z w128 m)) kappa_scale →
    f ≡ ceil_over (int_max (k *ℤ (pos (2 ^ 48) -ℤ tl)) (k *ℤ (pos (2 ^ 48) -ℤ th))) kappa_scale
hi_value k tl th x y m f hk hl hh ex sx ey sy em ef =
    let e : m ≡ int_max x y = rw (back x (omega (arith, sx)), back y (omega (arith, sy))) at em in
    let s : unsigned_abs (int_max x y) < 2 ^ 115 = omega (arith, ints, clamps, sx, sy) in
    let g : f ≡ ceil_over (int_max x y) kappa_scale = rw (e, back (int_max x y) (omega (arith, s))) at ef in
    rw (scaled_value k tl x hk hl ex, scaled_value k th y hk hh ey) at g

pub min-le-max : (a b : ℤ) → int_min a b ≤ℤ int_max a b
min-le-max a b = omega (arith, ints, clamps)

parabola_small : (a b d n : ℕ) (w : ℤ) → unsigned_abs w ≤ n → unsigned_abs (parabola (pos a) (pos b) (pos d) w) ≤ a + b * n + d * n * n
parabola_small a b d n w h =
    let slope = product_at_most (pos b) w b n (omega (arith, ints)) h in
    let once = product_at_most (pos d) w d n (omega (arith, ints)) h in
    let bend = product_at_most (pos d *ℤ w) w (d * n) n once h in
    three (pos b *ℤ w) (pos d *ℤ w *ℤ w) slope bend
  where
    three : (x y : ℤ) → unsigned_abs x ≤ b * n → unsigned_abs y ≤ d * n * n → unsigned_abs (pos a +ℤ x -ℤ y) ≤ a + b * n + d * n * n
    three x y h g = omega (arith, ints, h, g)

cube_small : (w : ℤ) → unsigned_abs w ≤ 15000 → unsigned_abs (pos 16666 *ℤ w *ℤ w *ℤ w) ≤ 16666 * 15000 * 15000 * 15000
cube_small w h =
    let once = product_at_most (pos 16666) w 16666 15000 (omega (arith, ints)) h in
    let twice = product_at_most (pos 16666 *ℤ w) w (16666 * 15000) 15000 once h in
    product_at_most (pos 16666 *ℤ w *ℤ w) w (16666 * 15000 * 15000) 15000 twice h

pub kappa_1976_small : (w : ℤ) → unsigned_abs w ≤ 15000 → unsigned_abs (kappa_1976 w) < 2 ^ 62
kappa_1976_small w h = let p = parabola_small (37464 * 10 ^ 13) (154226 * 10 ^ 9) (26992 * 10 ^ 5) 15000 w h in omega (arith, p)

pub kappa_1978_small : (w : ℤ) → unsigned_abs w ≤ 15000 → unsigned_abs (kappa_1978 w) < 2 ^ 62
kappa_1978_small w h =
    both (parabola (pos (379642 * 10 ^ 12)) (pos (148503 * 10 ^ 9)) (pos (164423 * 10 ^ 4)) w) (pos 16666 *ℤ w *ℤ w *ℤ w)
    (parabola_small (379642 * 10 ^ 12) (148503 * 10 ^ 9) (164423 * 10 ^ 4) 15000 w h) (cube_small w h)
  where
    both : (x y : ℤ) → unsigned_abs x ≤ 379642 * 10 ^ 12 + 148503 * 10 ^ 9 * 15000 + 164423 * 10 ^ 4 * 15000 * 15000 →
        unsigned_abs y ≤ 16666 * 15000 * 15000 * 15000 → unsigned_abs (x +ℤ y) < 2 ^ 62
    both x y h g = omega (arith, ints, h, g)

pub kappa_small : (e : Edition) (w : ℤ) → neg_ℤ (pos 5000) ≤ℤ w → w ≤ℤ pos 15000 → unsigned_abs (kappa_of e w) < 2 ^ 62
kappa_small Y1976 w low high = kappa_1976_small w (omega (arith, ints, low, high))
kappa_small Y1978 w low high = either (int_le w (pos 4900)) (omega (arith, ints, low, high))
  where
    either : (b : Bool) → unsigned_abs w ≤ 15000 → unsigned_abs (if b then kappa_1976 w else kappa_1978 w) < 2 ^ 62
    either true h = kappa_1976_small w h
    either false h = kappa_1978_small w h

-- above an acentric factor of 0.49 the edition of 1978 has its own formula, up to it that of 1976
pub kappa_above : (w : ℤ) → int_lt (pos 4900) w ≡ true → kappa_of Y1978 w ≡ kappa_1978 w
kappa_above w h = let e : int_le w (pos 4900) ≡ false = grind (arith, ints, h) in rw e refl

pub kappa_up_to : (w : ℤ) → int_lt (pos 4900) w ≡ false → kappa_of Y1978 w ≡ kappa_1976 w
kappa_up_to w h = let e : int_le w (pos 4900) ≡ true = grind (arith, ints, h) in rw e refl

-- a product of numbers of known size
pub product_small : (k z : ℤ) (m n : ℕ) → unsigned_abs k < m → unsigned_abs z < n → unsigned_abs (k *ℤ z) < m * n
product_small k z m n h g = rw (unsigned_abs-mul k z) (mul-lt (unsigned_abs k) (unsigned_abs z) m n h g)

unit_less_small : (t : ℤ) → pos 0 ≤ℤ t → t <ℤ pos (2 ^ 53) → unsigned_abs (pos (2 ^ 48) -ℤ t) < 2 ^ 53
unit_less_small t low high =
    let w = abs_within (pos (2 ^ 48) -ℤ t) (2 ^ 53 - 1) (omega (arith, ints, low, high)) (omega (arith, ints, low, high)) in omega (arith, w)

pub slope_small : (k t : ℤ) → unsigned_abs k < 2 ^ 62 → pos 0 ≤ℤ t → t <ℤ pos (2 ^ 53) → unsigned_abs (k *ℤ (pos (2 ^ 48) -ℤ t)) < 2 ^ 115
slope_small k t h low high =
    let p = product_small k (pos (2 ^ 48) -ℤ t) (2 ^ 62) (2 ^ 53) h (unit_less_small t low high) in
    omega (arith, p)

-- what the code computes
abbrev pub read : ℤ → ℤ
read z = to_z w128 (of_z w128 z)

pub slope_read : (k t : ℤ) → unsigned_abs k < 2 ^ 62 → pos 0 ≤ℤ t → t <ℤ pos (2 ^ 53) → read (read k *ℤ read (pos (2 ^ 48) -ℤ read t)) ≡ k *ℤ (pos (2 ^ 48) -ℤ t)
slope_read k t h low high =
    let less = unit_less_small t low high in
    let small = slope_small k t h low high in
    let size : unsigned_abs t < 2 ^ 127 = omega (arith, ints, low, high) in
    rw (back t size, back k (omega (arith, h)), back (pos (2 ^ 48) -ℤ t) (omega (arith, less)), back (k *ℤ (pos (2 ^ 48) -ℤ t)) (omega (arith, small))) refl

pub times_read : (k w : ℤ) → unsigned_abs k < 2 ^ 48 → unsigned_abs w < 2 ^ 14 → read (read k *ℤ read w) ≡ k *ℤ w
times_read k w h g = product_read k w (2 ^ 48) (2 ^ 14) (omega (arith, h)) (omega (arith, g)) (lit< tt) (lit< tt) (lit< tt)

pub times_small : (k w : ℤ) → unsigned_abs k < 2 ^ 48 → unsigned_abs w < 2 ^ 14 → unsigned_abs (read (read k *ℤ read w)) ≤ unsigned_abs k * 2 ^ 14
times_small k w h g =
    let p = product_at_most k w (unsigned_abs k) (2 ^ 14) (omega arith) (omega (arith, g)) in
    rw (times_read k w h g) p

-- a difference and a sum of numbers of known size
pub bent_read : (a x y : ℤ) → unsigned_abs a < 2 ^ 59 → unsigned_abs x < 2 ^ 62 → unsigned_abs y < 2 ^ 60 → read (read (read a +ℤ read x) -ℤ read y) ≡ a +ℤ x -ℤ y
bent_read a x y h g k = omega (arith, ints, h, g, k)

pub sum_read : (x y : ℤ) → unsigned_abs x < 2 ^ 63 → unsigned_abs y < 2 ^ 57 → read (read x +ℤ read y) ≡ x +ℤ y
sum_read x y h g = omega (arith, ints, h, g)
