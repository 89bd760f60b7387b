-- Quotients that are rounded to whole numbers are as small as what is divided allows.
use Rattle.std.proofs.Common.{◌≡◌, ℕ, zero, suc, ◌+◌, ◌*◌, ◌/◌, ◌<◌, ◌≤◌, ℤ, pos, negsuc, neg_ℤ, ◌≤ℤ◌, unsigned_abs, arith}
use Rattle.std.proofs.Math.Nat.{div-lt_iff_lt-mul, zero-div}
use Rattle.std.proofs.lemmas.Int.{ints}
use Rattle.log_laws.specs.Whole.{floor_over, ceil_over}

quotient_below : (a s limit : ℕ) → 0 < s → a < limit * s → a / s < limit
quotient_below a s limit h k = (div-lt_iff_lt-mul h).1 k

-- ---- of numbers of a size
pub floor_small : (y : ℤ) (d limit : ℕ) → 0 < d → unsigned_abs y ≤ limit * d → unsigned_abs (floor_over y d) ≤ limit
floor_small (pos a) d limit some h = omega (arith, quotient_below a d (limit + 1) some (omega (arith, some, h)))
floor_small (negsuc a) d limit some h = omega (arith, quotient_below a d limit some (omega (arith, h)))

-- ---- of numbers on one side
pub floor_least : (z : ℤ) (d limit : ℕ) → 0 < d → neg_ℤ (pos (limit * d)) ≤ℤ z → neg_ℤ (pos limit) ≤ℤ floor_over z d
floor_least (pos a) d limit some h = above (a / d)
  where
    above : (q : ℕ) → neg_ℤ (pos limit) ≤ℤ pos q
    above q = omega (arith, ints)
floor_least (negsuc a) d limit some h = above (a / d) (quotient_below a d limit some (under (limit * d) h))
  where
    under : (m : ℕ) → neg_ℤ (pos m) ≤ℤ negsuc a → a < m
    under m h = omega (arith, ints, h)

    above : (q : ℕ) → q < limit → neg_ℤ (pos limit) ≤ℤ negsuc q
    above q h = omega (arith, ints, h)

pub floor_positive : (z : ℤ) (d : ℕ) → pos 0 ≤ℤ z → pos 0 ≤ℤ floor_over z d
floor_positive (pos a) d h = omega (arith, ints)
floor_positive (negsuc a) d h = absurd (omega (arith, ints, h))

pub ceiling_most : (z : ℤ) (d limit : ℕ) → 0 < d → z ≤ℤ pos (limit * d) → ceil_over z d ≤ℤ pos limit
ceiling_most z d limit some h = turned (floor_over (neg_ℤ z) d) (floor_least (neg_ℤ z) d limit some (opposite (limit * d) h))
  where
    opposite : (m : ℕ) → z ≤ℤ pos m → neg_ℤ (pos m) ≤ℤ neg_ℤ z
    opposite m h = omega (arith, ints, h)

    turned : (f : ℤ) → neg_ℤ (pos limit) ≤ℤ f → neg_ℤ f ≤ℤ pos limit
    turned f h = omega (arith, ints, h)

pub ceiling_positive : (z : ℤ) (d : ℕ) → pos 0 ≤ℤ z → pos 0 ≤ℤ ceil_over z d
ceiling_positive (pos zero) d h = none (0 / d) (zero-div d)
  where
    none : (q : ℕ) → q ≡ 0 → pos 0 ≤ℤ neg_ℤ (pos q)
    none q e = omega (arith, ints, e)
ceiling_positive (pos (suc n)) d h = omega (arith, ints)
ceiling_positive (negsuc n) d h = absurd (omega (arith, ints, h))
