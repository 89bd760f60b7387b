-- The middle of a cell is a state of it.
use Rattle.std.proofs.Common.{ℕ, ◌+◌, ◌-◌, ◌*◌, ◌/◌, ◌^◌, ◌≤◌, ◌<◌, ◌≡◌, ◌==◌, true, false, cond, nat_lt, zero, suc, refl, ap, arith, lit<, slice_index}
use Rattle.std.proofs.Math.Nat.{le_of_mul-le-mul_right}
use Rattle.std.proofs.lemmas.Int.{ints}
use Rattle.log_laws.specs.Sums.{sum_below}
use Rattle.log_laws.proofs.Exports.{get_or-list_below}
use Rattle.case_types.specs.Arithmetic.Bounds.{one}
use Rattle.case_types.specs.Energy.Divisions.{State, IsState, moles}
use Rattle.case_types.specs.Grid.Cells.{Region, IsWithin, middle_of, middle_sum}
use Rattle.tangent_bound.specs.SlopeLows.{centre}
use Rattle.tangent_bound.proofs.SlopeParts.{middle_state}

-- ---- the fractions of the middle, in 2^-40
abbrev composition : ℕ → Region → ℕ → ℕ
composition n r i = cond (nat_lt i (n - 1)) (middle_of r i) (cond (i == n - 1) (2 ^ 20 - middle_sum n r) 0)

pub centre_free : (n : ℕ) (r : Region) (i : ℕ) → n ≤ 4 → i < n - 1 → centre n r i ≡ middle_of r i * 2 ^ 20
centre_free n r i few h =
    rw (get_or-list_below 4 (composition n r) 0 i (omega (arith, h, few)), yes i (n - 1) h) refl
  where
    yes : (a b : ℕ) → a < b → nat_lt a b ≡ true
    yes a b h = grind (arith, h)

pub centre_last : (n : ℕ) (r : Region) (i : ℕ) → 0 < n → n ≤ 4 → i ≡ n - 1 → centre n r i ≡ (2 ^ 20 - middle_sum n r) * 2 ^ 20
centre_last n r i some few e =
    rw (get_or-list_below 4 (composition n r) 0 i (omega (arith, some, e, few)), no i (n - 1) e, same i (n - 1) e) refl
  where
    no : (a b : ℕ) → a ≡ b → nat_lt a b ≡ false
    no a b e = grind (arith, e)

    same : (a b : ℕ) → a ≡ b → (a == b) ≡ true
    same a b e = grind (arith, e)

sum_times : (n : ℕ) (f g : ℕ → ℕ) (k : ℕ) → ((i : ℕ) → i < n → f i ≡ g i * k) → sum_below n f ≡ sum_below n g * k
sum_times zero f g k h = omega arith
sum_times (suc n) f g k h = let a = sum_times n f g k (λ i l. h i (omega (arith, l))) in let b = h n (omega arith) in omega (arith, a, b)

-- they add up to 1
pub middle_moles : (n : ℕ) (r : Region) → 0 < n → n ≤ 4 → middle_sum n r ≤ 2 ^ 20 → moles n (middle_state n r) ≡ 2 ^ 40
middle_moles zero r some few h = absurd (omega (arith, some))
middle_moles (suc m) r some few h =
    let e : suc m - 1 ≡ m = omega arith in
    let free = sum_times m (centre (suc m) r) (middle_of r) (2 ^ 20) (λ i l. centre_free (suc m) r i few (omega (arith, l, e))) in
    let last = centre_last (suc m) r m some few (omega (arith, e)) in
    let sum : middle_sum (suc m) r ≡ sum_below m (middle_of r) = ap (λ (k : ℕ). sum_below k (middle_of r)) e in
    all (sum_below m (centre (suc m) r)) (centre (suc m) r m) (middle_sum (suc m) r) h (rw (← sum) at free) last
  where
    all : (a b s : ℕ) → s ≤ 2 ^ 20 → a ≡ s * 2 ^ 20 → b ≡ (2 ^ 20 - s) * 2 ^ 20 → a + b ≡ 2 ^ 40
    all a b s h p q = rw (p, q) (left (2 ^ 20 - s) (omega (arith, h)))
      where
        left : (d : ℕ) → d + s ≡ 2 ^ 20 → s * 2 ^ 20 + d * 2 ^ 20 ≡ 2 ^ 40
        left d e = let k : (d + s) * 2 ^ 20 ≡ 2 ^ 20 * 2 ^ 20 = ap (λ (x : ℕ). x * 2 ^ 20) e in omega (arith, k)

-- ---- it is a state of the cell, where the cell has one
pub middle_is_state : (n : ℕ) (r : Region) → moles n (middle_state n r) ≡ 2 ^ 40 → 1 ≤ (r.ylo + r.yhi) / 2 → (r.ylo + r.yhi) / 2 < one → IsState n (middle_state n r)
middle_is_state n r all low high = record {
  some = rw all (lit< tt);
  is_fraction = lit< tt;
  not_empty = omega (arith, ints, low);
  not_full = omega (arith, ints, high);
}

pub middle_within : (n : ℕ) (r : Region) (f : State) → n ≤ 4 → IsState n f → IsWithin n r f → moles n (middle_state n r) ≡ 2 ^ 40 → IsWithin n r (middle_state n r)
middle_within n r f few state within all = record {
  above = λ i h. rw (all, centre_free n r i few h) (above (slice_index r.lo i) (slice_index r.hi i) (ordered i h));
  below = λ i h. rw (all, centre_free n r i few h) (below (slice_index r.lo i) (slice_index r.hi i) (ordered i h));
  denser = let o = packed in omega (arith, ints, o);
  thinner = let o = packed in omega (arith, ints, o);
}
  where
    ordered : (i : ℕ) → i < n - 1 → slice_index r.lo i ≤ slice_index r.hi i
    ordered i h = let a = within.above i h in let b = within.below i h in le_of_mul-le-mul_right {k = moles n f} (omega (arith, a, b)) state.some

    packed : r.ylo ≤ r.yhi
    packed = let a = within.denser in let b = within.thinner in le_of_mul-le-mul_right {k = f.packing.den} (omega (arith, ints, a, b)) state.is_fraction

    above : (a b : ℕ) → a ≤ b → a * 2 ^ 40 ≤ (a + b) / 2 * 2 ^ 20 * 2 ^ 20
    above a b h = omega (arith, h)

    below : (a b : ℕ) → a ≤ b → (a + b) / 2 * 2 ^ 20 * 2 ^ 20 ≤ b * 2 ^ 40
    below a b h = omega (arith, h)
