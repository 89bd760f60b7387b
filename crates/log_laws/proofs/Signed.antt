-- Signed numbers of 128 bits as the code reads them.
use Rattle.std.proofs.Common.{◌≡◌, ℕ, ◌+◌, ◌*◌, ◌%◌, ◌<◌, ◌≤◌, ◌^◌, ℤ, pos, negsuc, neg_ℤ, ◌+ℤ◌, ◌-ℤ◌, ◌*ℤ◌, lit<, ◌≤ℤ◌, refl, arith, to_z, of_z, Fits, unsigned_abs}
use lib.Dec.{T}
use lib.Signed.{non_neg}
use Rattle.std.specs.Int.{w128}
use Rattle.std.proofs.lemmas.Int.{ints, unsigned_abs-mul}
use Rattle.std.proofs.Math.Nat.{mul-le-mul, pow-le-pow_right}
use Rattle.log_laws.proofs.Wide.{back}

-- a number that isn't negative fits a natural one
pub natural_fits : (z : ℤ) → pos 0 ≤ℤ z → unsigned_abs z < 2 ^ 127 → T (non_neg (to_z w128 (of_z w128 z))) × Fits w128 (unsigned_abs (to_z w128 (of_z w128 z)))
natural_fits (pos n) low h = rw (back (pos n) h) (tt, omega (arith, h))
natural_fits (negsuc n) low h = absurd (omega (arith, ints, low))

-- and is that number
pub natural_value : (z : ℤ) → pos 0 ≤ℤ z → unsigned_abs z < 2 ^ 127 → pos (unsigned_abs (to_z w128 (of_z w128 z))) ≡ z
natural_value (pos n) low h = rw (back (pos n) h) refl
natural_value (negsuc n) low h = absurd (omega (arith, ints, low))

-- a difference of small numbers is read back as it is
pub difference_read : (a b : ℤ) → unsigned_abs a < 2 ^ 120 → unsigned_abs b < 2 ^ 120 →
    to_z w128 (of_z w128 (to_z w128 (of_z w128 a) -ℤ to_z w128 (of_z w128 b))) ≡ a -ℤ b
difference_read a b h g = omega (arith, ints, h, g)

-- so is a sum with a natural number
pub natural_sum_read : (z : ℤ) (n : ℕ) → unsigned_abs z < 2 ^ 120 → n < 2 ^ 120 → to_z w128 (of_z w128 (to_z w128 (of_z w128 z) +ℤ to_z w128 n)) ≡ z +ℤ pos n
natural_sum_read z n h g = omega (arith, ints, h, g)

-- so is the opposite of one
pub opposite_read : (z : ℤ) → unsigned_abs z < 2 ^ 120 → to_z w128 (of_z w128 (pos 0 -ℤ to_z w128 (of_z w128 z))) ≡ neg_ℤ z
opposite_read z h = omega (arith, ints, h)

-- a product of numbers of known size
pub product_at_most : (a b : ℤ) (m n : ℕ) → unsigned_abs a ≤ m → unsigned_abs b ≤ n → unsigned_abs (a *ℤ b) ≤ m * n
product_at_most a b m n h g = rw (unsigned_abs-mul a b) (mul-le-mul h g)

-- a product of small numbers is read back as it is
pub product_read : (a b : ℤ) (m n : ℕ) → unsigned_abs a ≤ m → unsigned_abs b ≤ n → m < 2 ^ 127 → n < 2 ^ 127 → m * n < 2 ^ 127 →
    to_z w128 (of_z w128 (to_z w128 (of_z w128 a) *ℤ to_z w128 (of_z w128 b))) ≡ a *ℤ b
product_read a b m n h g hm hn k =
    let small = product_at_most a b m n h g in
    rw (back a (omega (arith, h, hm)), back b (omega (arith, g, hn)), back (a *ℤ b) (omega (arith, small, k))) refl

-- a shifted 1, and its size
pub power_read : (l : ℕ) → l ≤ 29 → (1 * 2 ^ (16 + l) % 2 ^ 128 ≡ 2 ^ (16 + l)) × (2 ^ 16 ≤ 2 ^ (16 + l)) × (2 ^ (16 + l) ≤ 2 ^ 45)
power_read l h =
    let low : 2 ^ 16 ≤ 2 ^ (16 + l) = pow-le-pow_right (lit< tt) {i = 16} {j = 16 + l} (omega arith) in
    let high : 2 ^ (16 + l) ≤ 2 ^ 45 = pow-le-pow_right (lit< tt) {i = 16 + l} {j = 45} (omega (arith, h)) in
    (omega (arith, high), low, high)

-- a number that isn't negative is its size
pub natural : (z : ℤ) → pos 0 ≤ℤ z → z ≡ pos (unsigned_abs z)
natural z h = omega (arith, ints, h)

-- so is a product with a natural number
pub natural_product : (z : ℤ) (n : ℕ) → pos 0 ≤ℤ z → z *ℤ pos n ≡ pos (unsigned_abs z * n)
natural_product (pos a) n h = refl
natural_product (negsuc a) n h = absurd (omega (arith, ints, h))

-- a number between a limit and its opposite is of a size up to it
pub abs_within : (z : ℤ) (m : ℕ) → neg_ℤ (pos m) ≤ℤ z → z ≤ℤ pos m → unsigned_abs z ≤ m
abs_within (pos n) m low high = omega (arith, ints, high)
abs_within (negsuc n) m low high = omega (arith, ints, low)

-- a whole number that isn't negative is natural
pub by_natural : (P : ℤ → Type 0) (z : ℤ) → pos 0 ≤ℤ z → ((n : ℕ) → P (pos n)) → P z
by_natural P (pos n) h k = k n
by_natural P (negsuc n) h k = absurd (omega (arith, ints, h))
