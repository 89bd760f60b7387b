-- The least and the greatest of four numbers.
use Rattle.std.proofs.Common.{ℕ, ◌<◌, ℤ, ◌≤ℤ◌, unsigned_abs, arith}
use Rattle.std.proofs.lemmas.Int.{ints, clamps}
use Rattle.fix_interval.specs.Extremes.{least_of_four, greatest_of_four}

pub least_bounds : (a b c d : ℤ) →
    (least_of_four a b c d ≤ℤ a) × (least_of_four a b c d ≤ℤ b) × (least_of_four a b c d ≤ℤ c) × (least_of_four a b c d ≤ℤ d)
least_bounds a b c d = (omega (arith, ints, clamps), omega (arith, ints, clamps), omega (arith, ints, clamps), omega (arith, ints, clamps))

pub greatest_bounds : (a b c d : ℤ) →
    (a ≤ℤ greatest_of_four a b c d) × (b ≤ℤ greatest_of_four a b c d) × (c ≤ℤ greatest_of_four a b c d) × (d ≤ℤ greatest_of_four a b c d)
greatest_bounds a b c d = (omega (arith, ints, clamps), omega (arith, ints, clamps), omega (arith, ints, clamps), omega (arith, ints, clamps))

pub least-le-greatest : (a b c d : ℤ) → least_of_four a b c d ≤ℤ greatest_of_four a b c d
least-le-greatest a b c d = omega (arith, ints, clamps)

pub least_small : (n : ℕ) (a b c d : ℤ) → unsigned_abs a < n → unsigned_abs b < n → unsigned_abs c < n → unsigned_abs d < n →
    unsigned_abs (least_of_four a b c d) < n
least_small n a b c d ha hb hc hd = omega (arith, ints, clamps)

pub greatest_small : (n : ℕ) (a b c d : ℤ) → unsigned_abs a < n → unsigned_abs b < n → unsigned_abs c < n → unsigned_abs d < n →
    unsigned_abs (greatest_of_four a b c d) < n
greatest_small n a b c d ha hb hc hd = omega (arith, ints, clamps)
