-- A state of a cell is a state of its box, and lies above the plane by the energy less the plane.
use Rattle.std.proofs.Common.{ℕ, zero, suc, ◌+◌, ◌-◌, ◌*◌, ◌^◌, ◌≤◌, ◌<◌, ◌≡◌, true, false, cond, ◌==◌, nat_lt, refl, ap, arith, lit<, inl, inr, ℤ, pos, ◌+ℤ◌, ◌-ℤ◌, ◌*ℤ◌, ◌≤ℤ◌, neg_ℤ, slice_index, List}
use Rattle.std.proofs.Math.Nat.{le_of_mul-le-mul_right}
use Rattle.std.proofs.lemmas.Bool.{cases_lt}
use Rattle.std.proofs.lemmas.Int.{ints}
use Rattle.log_laws.specs.LogSum.{LogSum, AtLeast}
use Rattle.log_laws.proofs.Exports.{get_or-list_below, sum_below-scaled, product_pos, mul-le_ℤ, add-mul_ℤ, neg-mul, scale_scale, at_least_lowers}
use Rattle.log_laws.specs.Sums.{sum_below}
use Rattle.case_types.specs.Arithmetic.Bounds.{one}
use Rattle.case_types.specs.Grid.Cells.{Region, box_of_region, free_sum, IsWithin}
use Rattle.case_types.specs.Energy.Divisions.{State, moles, bits}
use Rattle.case_types.specs.Arithmetic.Holding.{IsInBox}

-- ---- above the plane
-- from the energy at least and the plane at most, for m parts
pub above_plane : (s : LogSum) (energy plane z : ℤ) (m : ℕ) → 0 < m → z ≤ℤ (plane *ℤ pos m) → AtLeast s (bits energy) →
    AtLeast s (record { num = z +ℤ (energy -ℤ plane) *ℤ pos m; den = m * 2 ^ 40 })
above_plane s energy plane z m h l x =
    at_least_lowers s (bits energy) (record { num = z +ℤ (energy -ℤ plane) *ℤ pos m; den = m * 2 ^ 40 }) (product_pos m (2 ^ 40) h (lit< tt))
    (rw (← scale_scale energy m (2 ^ 40)) (mul-le_ℤ (z +ℤ (energy -ℤ plane) *ℤ pos m) (energy *ℤ pos m) (2 ^ 40) below)) x
  where
    below : (z +ℤ (energy -ℤ plane) *ℤ pos m) ≤ℤ (energy *ℤ pos m)
    below = rw (add-mul_ℤ energy (neg_ℤ plane) (pos m), neg-mul plane (pos m)) (omega (arith, ints, l))

-- ---- a state of a cell is a state of its box
-- the fraction of the component i from the ends of the free ones
abbrev fraction : ℕ → List ℕ → ℕ → ℕ → ℕ
fraction n ends rest i = cond (nat_lt i (n - 1)) (slice_index ends i * 2 ^ 20) (cond (i == n - 1) rest 0)

free_fraction : (n : ℕ) (ends : List ℕ) (rest i : ℕ) → i < n - 1 → fraction n ends rest i ≡ slice_index ends i * 2 ^ 20
free_fraction n ends rest i h = rw (is_true i (n - 1) h) refl
  where
    is_true : (a b : ℕ) → a < b → nat_lt a b ≡ true
    is_true a b h = grind (arith, h)

last_fraction : (n : ℕ) (ends : List ℕ) (rest i : ℕ) → i ≡ n - 1 → fraction n ends rest i ≡ rest
last_fraction n ends rest i e = rw (is_false i (n - 1) e, is_true i (n - 1) e) refl
  where
    is_false : (a b : ℕ) → a ≡ b → nat_lt a b ≡ false
    is_false a b e = grind (arith, e)

    is_true : (a b : ℕ) → a ≡ b → (a == b) ≡ true
    is_true a b e = grind (arith, e)

-- the last fraction, from the sum s of the free ends and the sum q of the free parts
last_above : (s q p m : ℕ) → q + p ≡ m → q * 2 ^ 20 ≤ s * m → (2 ^ 40 - s * 2 ^ 20) * m ≤ p * 2 ^ 40
last_above s q p m e h = elim (cases_lt (s * 2 ^ 20) (2 ^ 40)) [ inl l ↦ left (2 ^ 40 - s * 2 ^ 20) (omega (arith, l)) | inr l ↦ none (2 ^ 40 - s * 2 ^ 20) (omega (arith, l)) ]
  where
    left : (d : ℕ) → d + s * 2 ^ 20 ≡ 2 ^ 40 → d * m ≤ p * 2 ^ 40
    left d is = let k : (d + s * 2 ^ 20) * m ≡ 2 ^ 40 * m = ap (λ (n : ℕ). n * m) is in omega (arith, k, e, h)

    none : (d : ℕ) → d ≡ 0 → d * m ≤ p * 2 ^ 40
    none d is = rw is (omega arith)

last_below : (s q p m : ℕ) → 0 < m → q + p ≡ m → s * m ≤ q * 2 ^ 20 → p * 2 ^ 40 ≤ (2 ^ 40 - s * 2 ^ 20) * m
last_below s q p m some e h = left (2 ^ 40 - s * 2 ^ 20) (omega (arith, within))
  where
    within : s ≤ 2 ^ 20
    within = le_of_mul-le-mul_right {k = m} (omega (arith, e, h)) some

    left : (d : ℕ) → d + s * 2 ^ 20 ≡ 2 ^ 40 → p * 2 ^ 40 ≤ d * m
    left d is = let k : (d + s * 2 ^ 20) * m ≡ 2 ^ 40 * m = ap (λ (n : ℕ). n * m) is in omega (arith, k, e, h)

-- all parts are the free ones and the last
parts_split : (n : ℕ) (p : ℕ → ℕ) (i : ℕ) → i < n → i ≡ n - 1 → sum_below (n - 1) p + p i ≡ sum_below n p
parts_split zero p i h e = absurd (omega (arith, h))
parts_split (suc k) p i h e = let d : suc k - 1 ≡ k = omega arith in rw (e, d) refl

pub in_box : (n : ℕ) (r : Region) (f : State) → n ≤ 4 → 0 < moles n f → IsWithin n r f → IsInBox n (box_of_region n r) f
in_box n r f small some within = record { above = above; below = below }
  where
    above : (i : ℕ) → i < n → slice_index (box_of_region n r).lo i * moles n f ≤ f.parts i * one
    above i h =
        let rest = one - free_sum n r.hi * 2 ^ 20 in
        rw (get_or-list_below 4 (fraction n r.lo rest) 0 i (omega (arith, h, small)))
        (elim (cases_lt i (n - 1)) [
          | inl l ↦ rw (free_fraction n r.lo rest i l) (let q = within.above i l in omega (arith, q))
          | inr l ↦ let e : i ≡ n - 1 = omega (arith, h, l) in
              rw (last_fraction n r.lo rest i e)
              (last_above (free_sum n r.hi) (sum_below (n - 1) f.parts) (f.parts i) (moles n f) (parts_split n f.parts i h e) (sum_below-scaled (n - 1) f.parts (slice_index r.hi) (2 ^ 20) (moles n f) within.below))
        ])

    below : (i : ℕ) → i < n → f.parts i * one ≤ slice_index (box_of_region n r).hi i * moles n f
    below i h =
        let rest = one - free_sum n r.lo * 2 ^ 20 in
        rw (get_or-list_below 4 (fraction n r.hi rest) 0 i (omega (arith, h, small)))
        (elim (cases_lt i (n - 1)) [
          | inl l ↦ rw (free_fraction n r.hi rest i l) (let q = within.below i l in omega (arith, q))
          | inr l ↦ let e : i ≡ n - 1 = omega (arith, h, l) in
              rw (last_fraction n r.hi rest i e)
              (last_below (free_sum n r.lo) (sum_below (n - 1) f.parts) (f.parts i) (moles n f) some (parts_split n f.parts i h e) (sum_below-scaled (n - 1) (slice_index r.lo) f.parts (moles n f) (2 ^ 20) within.above))
        ])

-- where no free fraction is above 1, no fraction of the box is
pub none_above_one : (n : ℕ) (r : Region) → n ≤ 4 → ((i : ℕ) → i < n - 1 → slice_index r.hi i ≤ 2 ^ 20) → (i : ℕ) → i < n → slice_index (box_of_region n r).hi i ≤ 2 ^ 40
none_above_one n r small free i h =
    let rest = one - free_sum n r.lo * 2 ^ 20 in
    rw (get_or-list_below 4 (fraction n r.hi rest) 0 i (omega (arith, h, small)))
    (elim (cases_lt i (n - 1)) [
      | inl l ↦ rw (free_fraction n r.hi rest i l) (let q = free i l in omega (arith, q))
      | inr l ↦ let e : i ≡ n - 1 = omega (arith, h, l) in rw (last_fraction n r.hi rest i e) (omega arith)
    ])
