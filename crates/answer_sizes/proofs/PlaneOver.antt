-- A plane of small potentials is small at the feed, and no higher over a box.
use Rattle.std.proofs.Common.{ℕ, zero, suc, ◌+◌, ◌-◌, ◌*◌, ◌≤◌, List, ℤ, pos, negsuc, ◌+ℤ◌, ◌-ℤ◌, ◌*ℤ◌, ◌≤ℤ◌, unsigned_abs, slice_index, arith}
use Rattle.std.specs.Int.{int_min, int_max}
use Rattle.std.proofs.Math.Nat.{mul-le-mul_right}
use Rattle.std.proofs.lemmas.Int.{ints, clamps}
use borrow.Author.Differences.{product_is}
use Rattle.log_laws.specs.Sums.{sum_below, int_sum_below, greatest_below}
use Rattle.log_laws.specs.Linear.{affine_high}
use Rattle.case_types.specs.declared.cases.Case.{Case}
use Rattle.case_types.specs.Arithmetic.Bounds.{Box, potential, plane_at, plane_times, plane_sum, plane_high}
use Rattle.answer_sizes.proofs.Rounding.{floor_small}
use Rattle.case_types.proofs.Exports.{total_positive}

-- ---- at the feed
times_small : (l : ℤ) (z limit : ℕ) → unsigned_abs l ≤ limit → unsigned_abs (l *ℤ pos z) ≤ limit * z
times_small (pos k) z limit h = omega (arith, ints, mul-le-mul_right z h)
times_small (negsuc k) z limit h = omega (arith, ints, product_is (negsuc k) (pos z), mul-le-mul_right z h)

joined : (a b : ℤ) (p q limit : ℕ) → unsigned_abs a ≤ limit * p → unsigned_abs b ≤ limit * q → unsigned_abs (a +ℤ b) ≤ limit * (p + q)
joined a b p q limit h k = omega (arith, ints, h, k)

weighed_small : (n : ℕ) (lam : ℕ → ℤ) (z : ℕ → ℕ) (limit : ℕ) → ((i : ℕ) → unsigned_abs (lam i) ≤ limit) → unsigned_abs (plane_sum n lam z) ≤ limit * sum_below n z
unfolding int_sum_below
weighed_small zero lam z limit h = omega arith
weighed_small (suc n) lam z limit h =
    joined (plane_sum n lam z) (lam n *ℤ pos (z n)) (sum_below n z) (z n) limit (weighed_small n lam z limit h) (times_small (lam n) (z n) limit (h n))

pub plane_at_feed_small : (c : Case) (lam : List ℤ) (limit : ℕ) → ((i : ℕ) → unsigned_abs (potential lam i) ≤ limit) → unsigned_abs (plane_at c.n lam c.z c.total) ≤ limit
unfolding plane_at plane_times
plane_at_feed_small c lam limit h =
    floor_small (plane_sum c.n (potential lam) (slice_index c.z)) c.total limit (total_positive c)
    (let l = weighed_small c.n (potential lam) (slice_index c.z) limit h in let e = c.added in rw e at l)

-- ---- over a box
greatest_at_most : (n : ℕ) (f : ℕ → ℤ) (first : ℤ) (limit : ℤ) → first ≤ℤ limit → ((i : ℕ) → f i ≤ℤ limit) → greatest_below n f first ≤ℤ limit
unfolding greatest_below
greatest_at_most zero f first limit h k = h
greatest_at_most (suc n) f first limit h k = greater (greatest_below n f first) (f n) limit (greatest_at_most n f first limit h k) (k n)
  where
    greater : (a b limit : ℤ) → a ≤ℤ limit → b ≤ℤ limit → int_max a b ≤ℤ limit
    greater a b limit h k = omega (arith, ints, clamps, h, k)

pub plane_high_at_most : (n : ℕ) (lam : List ℤ) (x : Box) (limit : ℕ) → ((i : ℕ) → unsigned_abs (potential lam i) ≤ limit) → plane_high n lam x ≤ℤ pos limit
unfolding plane_high
plane_high_at_most n lam x limit h =
    lesser (greatest_below n (potential lam) (potential lam 0))
    (affine_high (n - 1) (potential lam (n - 1)) (λ i. potential lam i -ℤ potential lam (n - 1)) (slice_index x.lo) (slice_index x.hi)) (pos limit)
    (greatest_at_most n (potential lam) (potential lam 0) (pos limit) (own (potential lam 0) (h 0)) (λ i. own (potential lam i) (h i)))
  where
    lesser : (a b limit : ℤ) → a ≤ℤ limit → int_min a b ≤ℤ limit
    lesser a b limit h = omega (arith, ints, clamps, h)

    own : (z : ℤ) → unsigned_abs z ≤ limit → z ≤ℤ pos limit
    own z h = omega (arith, ints, h)
