-- Whole parts that lie between ends of a box, and the sums that bound their means.
use Rattle.std.proofs.Common.{◌≡◌, ℕ, zero, suc, ◌+◌, ◌*◌, ◌<◌, ◌≤◌, refl, arith, ℤ, pos, negsuc, ◌+ℤ◌, ◌*ℤ◌, ◌≤ℤ◌, Bool, true, false, cond, ◌^◌, to_z, of_z, lit<}
use Rattle.std.specs.Prelude.{int_lt}
use Rattle.std.specs.Int.{int_min, int_max, w128}
use Rattle.std.proofs.lemmas.Int.{ints}
use Rattle.std.proofs.Math.Nat.{mul-le-mul_right, div-le_of_le-mul}
use Rattle.log_laws.specs.Sums.{sum_below, int_sum_below}
use Rattle.log_laws.proofs.Exports.{mul-le_ℤ, mul-add_ℤ, back, ceil_over-pos, sum-more}
use Rattle.log_laws.specs.Whole.{floor_div, ceil_div, ceil_quotient}
use Rattle.log_laws.specs.Interval.{ends_of}
use Rattle.log_laws.specs.declared.iv.Iv.{Iv}
use Rattle.pr_params.specs.declared.bounds.Bound.{Bound}
use Rattle.pr_params.specs.declared.bounds.Bound.TheVariants.{AtLeast, AtMost}
use Rattle.pr_params.specs.Rounding.{rounded_on, end_on}
use Rattle.log_laws.proofs.Exports.{ceiling_at_most}

-- ---- the lesser and the greater
-- a fact of two numbers holds of the lesser, and of the greater
pub of_lesser : (P : ℤ → Type 0) (a b : ℤ) → P a → P b → P (int_min a b)
of_lesser P a b pa pb = either (int_lt b a)
  where
    either : (t : Bool) → P (cond t b a)
    either true = pb
    either false = pa

pub of_greater : (P : ℤ → Type 0) (a b : ℤ) → P a → P b → P (int_max a b)
of_greater P a b pa pb = either (int_lt b a)
  where
    either : (t : Bool) → P (cond t a b)
    either true = pa
    either false = pb

-- ---- one number that is below all, or above all
pub below_all : (n : ℕ) (p z : ℕ → ℕ) (w : ℤ) → ((i : ℕ) → i < n → w ≤ℤ pos (z i))
    → (w *ℤ pos (sum_below n p)) ≤ℤ pos (sum_below n (λ i. p i * z i))
below_all zero p z w h = omega (arith, ints)
below_all (suc n) p z w h =
    let before = below_all n p z w (λ i l. h i (omega (arith, l))) in
    let here = mul-le_ℤ w (pos (z n)) (p n) (h n (omega arith)) in
    omega (arith, ints, before, here, mul-add_ℤ w (pos (sum_below n p)) (pos (p n)))

pub above_all : (n : ℕ) (p z : ℕ → ℕ) (w : ℤ) → ((i : ℕ) → i < n → pos (z i) ≤ℤ w)
    → pos (sum_below n (λ i. p i * z i)) ≤ℤ (w *ℤ pos (sum_below n p))
above_all zero p z w h = omega (arith, ints)
above_all (suc n) p z w h =
    let before = above_all n p z w (λ i l. h i (omega (arith, l))) in
    let here = mul-le_ℤ (pos (z n)) w (p n) (h n (omega arith)) in
    omega (arith, ints, before, here, mul-add_ℤ w (pos (sum_below n p)) (pos (p n)))

-- ---- in 128 bits
-- one number more in a sum that is kept in 128 bits
pub added : (i : ℕ) (f : ℕ → ℤ) (sum share : ℤ) (w : ℕ) → i < 4 → w ≤ 2 ^ 103 → pos 0 ≤ℤ sum → sum ≤ℤ pos (i * w) → pos 0 ≤ℤ share → share ≤ℤ pos w
    → sum ≡ int_sum_below i f → share ≡ f i
    → (to_z w128 (of_z w128 (sum +ℤ to_z w128 (of_z w128 share))) ≡ int_sum_below (i + 1) f)
    × (pos 0 ≤ℤ to_z w128 (of_z w128 (sum +ℤ to_z w128 (of_z w128 share))))
    × (to_z w128 (of_z w128 (sum +ℤ to_z w128 (of_z w128 share))) ≤ℤ pos ((i + 1) * w))
added i f sum share w few wide low high from to is at =
    let three = mul-le-mul_right w few' in
    let read : to_z w128 (of_z w128 share) ≡ share = back share (omega (arith, ints, from, to, wide)) in
    let all : to_z w128 (of_z w128 (sum +ℤ share)) ≡ sum +ℤ share = back (sum +ℤ share) (omega (arith, ints, low, high, from, to, wide, three)) in (
      rw (read, all, sum-more i f) (rw (is, at) refl),
      rw (read, all) (omega (arith, ints, low, from)),
      rw (read, all) (omega (arith, ints, high, to)),
    )
  where
    few' : i ≤ 3
    few' = omega (arith, few)

-- a number in 2^-40 of one that isn't negative
at_most_times : (n w : ℕ) → pos n ≤ℤ pos (w * 2 ^ 40) → n ≤ 2 ^ 40 * w
at_most_times n w k = omega (arith, ints, k)

pub floor_sizes : (z : ℤ) (w : ℕ) → pos 0 ≤ℤ z → z ≤ℤ pos (w * 2 ^ 40) → (pos 0 ≤ℤ floor_div z (pos (2 ^ 40))) × (floor_div z (pos (2 ^ 40)) ≤ℤ pos w)
floor_sizes (pos n) w h k = let q = div-le_of_le-mul (2 ^ 40) (at_most_times n w k) in (omega (arith, ints), omega (arith, ints, q))
floor_sizes (negsuc n) w h k = absurd (omega (arith, ints, h))

pub ceil_sizes : (z : ℤ) (w : ℕ) → pos 0 ≤ℤ z → z ≤ℤ pos (w * 2 ^ 40) → (pos 0 ≤ℤ ceil_div z (pos (2 ^ 40))) × (ceil_div z (pos (2 ^ 40)) ≤ℤ pos w)
ceil_sizes (pos n) w h k =
    let q : ceil_quotient n (2 ^ 40) ≤ w = ceiling_at_most n (2 ^ 40) w (lit< tt) (omega (arith, ints, k)) in
    rw (ceil_over-pos n (2 ^ 40) (lit< tt)) (omega (arith, ints), omega (arith, ints, q))
ceil_sizes (negsuc n) w h k = absurd (omega (arith, ints, h))

-- a fraction of a number is at most the number in 2^-40
pub share_at_most : (n : ℕ) (z : ℤ) → n ≤ 2 ^ 40 → pos 0 ≤ℤ z → (pos n *ℤ z) ≤ℤ (z *ℤ pos (2 ^ 40))
share_at_most n (pos z) h k = let q = mul-le-mul_right z h in omega (arith, ints, q)
share_at_most n (negsuc z) h k = absurd (omega (arith, ints, k))

-- ---- on either side
-- a rounded number that is neither negative nor large is neither
pub sizes_on : (bound : Bound) (z : ℤ) (w : ℕ) → pos 0 ≤ℤ z → z ≤ℤ pos (w * 2 ^ 40) → (pos 0 ≤ℤ rounded_on bound z) × (rounded_on bound z ≤ℤ pos w)
sizes_on AtLeast z w h k = floor_sizes z w h k
sizes_on AtMost z w h k = ceil_sizes z w h k

-- an end of an interval that isn't negative isn't
pub end_positive : (bound : Bound) (v : Iv) → pos 0 ≤ℤ v.lo → pos 0 ≤ℤ end_on bound (ends_of v)
end_positive AtLeast v h = h
end_positive AtMost v h = let order = v.ordered in omega (arith, ints, h, order)

pub end_most : (bound : Bound) (v : Iv) (limit : ℤ) → v.hi ≤ℤ limit → end_on bound (ends_of v) ≤ℤ limit
end_most AtLeast v limit h = let order = v.ordered in omega (arith, ints, h, order)
end_most AtMost v limit h = h
