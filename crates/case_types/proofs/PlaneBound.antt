-- The plane at every composition of a box is at most its upper end.
use Rattle.std.proofs.Common.{ℕ, zero, suc, ◌-◌, ◌<◌, ◌≡◌, ap, refl, arith, ◌⊎◌, inl, inr, ℤ, pos, ◌+ℤ◌, ◌-ℤ◌, ◌*ℤ◌, ◌≤ℤ◌, slice_index, List}
use Rattle.std.specs.Int.{int_min}
use Rattle.std.proofs.lemmas.Int.{ints, clamps}
use borrow.Author.Differences.{at_most_in, product_is}
use Rattle.log_laws.specs.Linear.{affine_high}
use Rattle.log_laws.proofs.Exports.{mul-le_ℤ, mul-add_ℤ, le-greatest, affine_above}
use Rattle.case_types.specs.Arithmetic.Bounds.{Box, potential, plane_high}
use Rattle.case_types.specs.Energy.Divisions.{State, moles}
use Rattle.case_types.specs.Arithmetic.Holding.{IsInBox}
use Rattle.log_laws.specs.Sums.{sum_below, int_sum_below, greatest_below}
use Rattle.case_types.specs.Arithmetic.Bounds.{plane_sum}

-- ---- by the greatest potential
pub sums_ordered : (a b c d : ℤ) → a ≤ℤ b → c ≤ℤ d → (a +ℤ c) ≤ℤ (b +ℤ d)
sums_ordered a b c d h k = omega (arith, ints, h, k)

-- weights of numbers of at most g
weighted_most : (n : ℕ) (f : ℕ → ℤ) (w : ℕ → ℕ) (g : ℤ) → ((i : ℕ) → i < n → f i ≤ℤ g) → int_sum_below n (λ i. f i *ℤ pos (w i)) ≤ℤ (g *ℤ pos (sum_below n w))
unfolding int_sum_below
weighted_most zero f w g h = at_most_in (pos 0) (g *ℤ pos 0) (omega (arith, product_is g (pos 0)))
weighted_most (suc n) f w g h =
    rw (mul-add_ℤ g (pos (sum_below n w)) (pos (w n)))
    (sums_ordered (int_sum_below n (λ i. f i *ℤ pos (w i))) (g *ℤ pos (sum_below n w)) (f n *ℤ pos (w n)) (g *ℤ pos (w n))
    (weighted_most n f w g (λ i l. h i (omega (arith, l)))) (mul-le_ℤ (f n) g (w n) (h n (omega arith))))

-- ---- the plane
-- the upper end from the last component k
abbrev high_by : ℕ → List ℤ → Box → ℕ → ℤ
high_by n lams x k =
    int_min (greatest_below n (potential lams) (potential lams 0))
    (affine_high k (potential lams k) (λ i. potential lams i -ℤ potential lams k) (slice_index x.lo) (slice_index x.hi))

high_is : (n : ℕ) (lams : List ℤ) (x : Box) (k : ℕ) → n - 1 ≡ k → plane_high n lams x ≡ high_by n lams x k
unfolding plane_high
high_is n lams x k e = ap (high_by n lams x) e

-- the lesser of two bounds is a bound
by_lesser : (s g c : ℤ) (m : ℕ) → s ≤ℤ (g *ℤ pos m) → s ≤ℤ (c *ℤ pos m) → s ≤ℤ (int_min g c *ℤ pos m)
by_lesser s g c m h k = elim (lesser g c) [ inl e ↦ rw e h | inr e ↦ rw e k ]
  where
    lesser : (g c : ℤ) → (int_min g c ≡ g) ⊎ (int_min g c ≡ c)
    lesser g c = grind (arith, ints, clamps)

pub plane_at_most : (n : ℕ) (lams : List ℤ) (box : Box) (f : State) → IsInBox n box f →
    plane_sum n (potential lams) f.parts ≤ℤ (plane_high n lams box *ℤ pos (moles n f))
unfolding int_sum_below
plane_at_most zero lams box f inside = at_most_in (pos 0) (plane_high 0 lams box *ℤ pos 0) (omega (arith, product_is (plane_high 0 lams box) (pos 0)))
plane_at_most (suc k) lams box f inside =
    rw (high_is (suc k) lams box k (omega arith))
    (by_lesser (plane_sum (suc k) (potential lams) f.parts) (greatest_below (suc k) (potential lams) (potential lams 0))
    (affine_high k (potential lams k) (λ i. potential lams i -ℤ potential lams k) (slice_index box.lo) (slice_index box.hi)) (moles (suc k) f)
    (weighted_most (suc k) (potential lams) f.parts (greatest_below (suc k) (potential lams) (potential lams 0))
    (λ i l. le-greatest (suc k) i (potential lams) (potential lams 0) l))
    (affine_above k (potential lams k) (λ i. potential lams i -ℤ potential lams k) (potential lams) (slice_index box.lo) (slice_index box.hi) f.parts (moles (suc k) f)
    (record { all = refl; above = λ i l. inside.above i (omega (arith, l)); below = λ i l. inside.below i (omega (arith, l)) })
    (λ i l. risen (potential lams i) (potential lams k)) (omega (arith, ints))))
  where
    risen : (z r : ℤ) → z ≤ℤ (r +ℤ (z -ℤ r))
    risen z r = omega (arith, ints)
