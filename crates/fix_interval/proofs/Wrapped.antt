-- What calls gave, without the steps through bits.
use Rattle.std.proofs.Common.{◌≡◌, ℕ, ◌*◌, ◌%◌, ◌<◌, ◌≤◌, ◌^◌, ℤ, pos, neg_ℤ, ◌-ℤ◌, ◌*ℤ◌, ◌≤ℤ◌, unsigned_abs, arith, to_z, of_z, ◌∙◌}
use Rattle.std.specs.Int.{int_min, int_max, w64, w128}
use Rattle.std.proofs.lemmas.Int.{ints, clamps, to_z_pos, to_z-of_z, fits_signed_from_abs, unsigned_abs-mul}
use Rattle.std.proofs.lemmas.Nat.{mul-lt, one_shl, pow_below}
use Rattle.log_laws.proofs.Exports.{back}
use Rattle.log_laws.specs.declared.iv.Iv.{Iv}
use Rattle.fix_interval.specs.Extremes.{least_of_four, greatest_of_four, least_product, greatest_product}
use Rattle.fix_interval.proofs.Corners.{least_small, greatest_small}

pub product_small : (a b : ℤ) → unsigned_abs a < 2 ^ 62 → unsigned_abs b < 2 ^ 62 → unsigned_abs (a *ℤ b) < 2 ^ 124
product_small a b h k = rw (unsigned_abs-mul a b) (mul-lt (unsigned_abs a) (unsigned_abs b) (2 ^ 62) (2 ^ 62) h k)

-- a number that was narrowed to 64 bits and widened again
pub narrowed : (z : ℤ) → unsigned_abs z < 2 ^ 62 → to_z w128 (of_z w128 (to_z w64 (of_z w64 (to_z w128 (of_z w128 z))))) ≡ z
narrowed z h =
    rw (back z (omega (arith, h)), to_z-of_z w64 z (fits_signed_from_abs w64 z (omega (arith, h)))) (back z (omega (arith, h)))

-- the product x of a and b
pub product_is : (a b x : ℤ) → unsigned_abs a < 2 ^ 62 → unsigned_abs b < 2 ^ 62 →
    x ≡ to_z w128 (of_z w128 a) *ℤ to_z w128 (of_z w128 b) → x ≡ a *ℤ b
product_is a b x h k e = rw (back a (omega arith), back b (omega arith)) at e

-- the least m of a, b, c and d, found by twos
pub least_is : (a b c d i j m : ℤ) → unsigned_abs a < 2 ^ 124 → unsigned_abs b < 2 ^ 124 → unsigned_abs c < 2 ^ 124 → unsigned_abs d < 2 ^ 124 →
    i ≡ int_min (to_z w128 (of_z w128 a)) (to_z w128 (of_z w128 b)) →
    j ≡ int_min (to_z w128 (of_z w128 c)) (to_z w128 (of_z w128 d)) →
    m ≡ int_min (to_z w128 (of_z w128 i)) (to_z w128 (of_z w128 j)) → m ≡ least_of_four a b c d
least_is a b c d i j m ha hb hc hd ei ej em =
    let i_is = rw (back a (omega arith), back b (omega arith)) at ei in
    let j_is = rw (back c (omega arith), back d (omega arith)) at ej in
    let m_is = rw (back i (rw i_is (omega (arith, ints, clamps))), back j (rw j_is (omega (arith, ints, clamps)))) at em in
    rw (i_is, j_is) at m_is

pub greatest_is : (a b c d i j m : ℤ) → unsigned_abs a < 2 ^ 124 → unsigned_abs b < 2 ^ 124 → unsigned_abs c < 2 ^ 124 → unsigned_abs d < 2 ^ 124 →
    i ≡ int_max (to_z w128 (of_z w128 a)) (to_z w128 (of_z w128 b)) →
    j ≡ int_max (to_z w128 (of_z w128 c)) (to_z w128 (of_z w128 d)) →
    m ≡ int_max (to_z w128 (of_z w128 i)) (to_z w128 (of_z w128 j)) → m ≡ greatest_of_four a b c d
greatest_is a b c d i j m ha hb hc hd ei ej em =
    let i_is = rw (back a (omega arith), back b (omega arith)) at ei in
    let j_is = rw (back c (omega arith), back d (omega arith)) at ej in
    let m_is = rw (back i (rw i_is (omega (arith, ints, clamps))), back j (rw j_is (omega (arith, ints, clamps)))) at em in
    rw (i_is, j_is) at m_is

pub least_product_small : (a b : Iv) → unsigned_abs (least_product a b) < 2 ^ 124
least_product_small a b =
    least_small (2 ^ 124) (a.lo *ℤ b.lo) (a.lo *ℤ b.hi) (a.hi *ℤ b.lo) (a.hi *ℤ b.hi)
    (product_small a.lo b.lo a.lo_small b.lo_small) (product_small a.lo b.hi a.lo_small b.hi_small)
    (product_small a.hi b.lo a.hi_small b.lo_small) (product_small a.hi b.hi a.hi_small b.hi_small)

pub greatest_product_small : (a b : Iv) → unsigned_abs (greatest_product a b) < 2 ^ 124
greatest_product_small a b =
    greatest_small (2 ^ 124) (a.lo *ℤ b.lo) (a.lo *ℤ b.hi) (a.hi *ℤ b.lo) (a.hi *ℤ b.hi)
    (product_small a.lo b.lo a.lo_small b.lo_small) (product_small a.lo b.hi a.lo_small b.hi_small)
    (product_small a.hi b.lo a.hi_small b.lo_small) (product_small a.hi b.hi a.hi_small b.hi_small)

-- a power of 2 that was shifted into place
pub power : (k : ℕ) → k ≤ 60 → to_z w128 ((1 * 2 ^ k) % 2 ^ 128) ≡ pos (2 ^ k)
power k h = rw (one_shl k 128 (omega arith)) (to_z_pos w128 (2 ^ k) (pow_below k 127 (omega arith)))

pub scaled_small : (z : ℤ) (k : ℕ) → unsigned_abs z < 2 ^ 62 → k ≤ 60 → unsigned_abs (z *ℤ pos (2 ^ k)) < 2 ^ 123
scaled_small z k h g = rw (unsigned_abs-mul z (pos (2 ^ k))) (mul-lt (unsigned_abs z) (2 ^ k) (2 ^ 62) (2 ^ 61) h (pow_below k 61 (omega arith)))

-- a scaled by k
pub scaled_is : (a x : ℤ) (k : ℕ) → unsigned_abs a < 2 ^ 62 → x ≡ to_z w128 (of_z w128 a) *ℤ pos k → x ≡ a *ℤ pos k
scaled_is a x k h e = rw (back a (omega arith)) at e

-- a quotient with its sign changed
pub opposite_of : (z : ℤ) → unsigned_abs z ≤ 2 ^ 123 → to_z w128 (of_z w128 (pos 0 -ℤ to_z w128 (of_z w128 z))) ≡ neg_ℤ z
opposite_of z h = rw (back z (omega (arith, h))) (back (pos 0 -ℤ z) (omega (arith, ints, h)) ∙ zero_less z)
  where
    zero_less : (z : ℤ) → pos 0 -ℤ z ≡ neg_ℤ z
    zero_less z = omega (arith, ints)

pub lesser-le-greater : (f g x y : ℤ) → f ≤ℤ x → int_min f g ≤ℤ int_max x y
lesser-le-greater f g x y h = omega (arith, ints, clamps)
