-- The smallest box on the grid that holds the composition of given parts.
use Rattle.std.proofs.Common.{ℕ, zero, suc, ◌*◌, ◌^◌, ◌≤◌, ◌<◌, ◌≡◌, refl, ◌∙◌, arith, cond, nat_lt, nat_le, Bool, true, false, IsTrue, slice_index, List}
use Rattle.std.proofs.Math.Nat.{div-mul-le_self, le_of_mul-le-mul_right}
use Rattle.std.proofs.lemmas.Bool.{le-leb, ltb-true}
use Rattle.log_laws.specs.Sums.{sum_below, list_below}
use Rattle.log_laws.proofs.Exports.{le-ceiling, floor-le-ceiling, ceiling_at_most, le-sum_below, sum_below-scaled, all_below-from, get_or-list_below}
use Rattle.case_types.specs.declared.phases.Phase.{Phase}
use Rattle.case_types.specs.Arithmetic.Bounds.{Box, one, box_of_parts, share_down, share_up}
use Rattle.case_types.specs.Energy.Divisions.{moles, state_of}
use Rattle.case_types.specs.Arithmetic.Holding.{IsInBox}
use Rattle.case_types.specs.Ranges.{is_each_at_most, is_each_up_to}

-- ---- a list with an entry for each live component
abbrev live : ℕ → (ℕ → ℕ) → ℕ → ℕ
live n g i = cond (nat_lt i n) (g i) 0

live_at : (g : ℕ → ℕ) (n i : ℕ) → n ≤ 4 → i < n → slice_index (list_below 4 (live n g)) i ≡ g i
live_at g n i few h = get_or-list_below 4 (live n g) 0 i (omega (arith, few, h)) ∙ (rw (is_below i n h) refl)
  where
    is_below : (a b : ℕ) → a < b → nat_lt a b ≡ true
    is_below a b l = grind (arith, l)

-- the others add nothing
live_sum : (g : ℕ → ℕ) (n : ℕ) → n ≤ 4 → sum_below 4 (slice_index (list_below 4 (live n g))) ≡ sum_below n g
unfolding list_below
live_sum g zero few = omega arith
live_sum g (suc zero) few = omega arith
live_sum g (suc (suc zero)) few = omega arith
live_sum g (suc (suc (suc zero))) few = omega arith
live_sum g (suc (suc (suc (suc zero)))) few = omega arith
live_sum g (suc (suc (suc (suc (suc n))))) few = absurd (omega (arith, few))

-- a limit of the live entries is one of all
live_up_to : (b : Bool) (x limit : ℕ) → (b ≡ true → x ≤ limit) → cond b x 0 ≤ limit
live_up_to true x limit h = h refl
live_up_to false x limit h = omega arith

live_ordered : (b : Bool) (x y : ℕ) → x ≤ y → cond b x 0 ≤ cond b y 0
live_ordered true x y h = h
live_ordered false x y h = omega arith

-- ---- it holds the composition
pub in_box_of_parts : (n : ℕ) (f : Phase) → n ≤ 4 → 0 < moles n (state_of f) → IsInBox n (box_of_parts n f.parts) (state_of f)
in_box_of_parts n f few some = record { above = above; below = below }
  where
    above : (i : ℕ) → i < n → slice_index (box_of_parts n f.parts).lo i * moles n (state_of f) ≤ slice_index f.parts i * one
    above i h =
        rw (live_at (λ i. share_down one (slice_index f.parts i) (moles n (state_of f))) n i few h)
        (div-mul-le_self (slice_index f.parts i * one) (moles n (state_of f)))

    below : (i : ℕ) → i < n → slice_index f.parts i * one ≤ slice_index (box_of_parts n f.parts).hi i * moles n (state_of f)
    below i h =
        rw (live_at (λ i. share_up one (slice_index f.parts i) (moles n (state_of f))) n i few h)
        (le-ceiling (slice_index f.parts i * one) (moles n (state_of f)) some)

-- ---- it is a box
-- a share of the whole is at most the whole
share_top : (n : ℕ) (parts : List ℕ) → 0 < sum_below n (slice_index parts) → (i : ℕ) → i < n →
    share_up one (slice_index parts i) (sum_below n (slice_index parts)) ≤ 2 ^ 40
share_top n parts some i h =
    ceiling_at_most (slice_index parts i * one) (sum_below n (slice_index parts)) (2 ^ 40) some
    (let l = le-sum_below n i (slice_index parts) h in omega (arith, l))

pub parts_top : (n : ℕ) (parts : List ℕ) → n ≤ 4 → 0 < sum_below n (slice_index parts) → (i : ℕ) → i < n →
    slice_index (box_of_parts n parts).hi i ≤ 2 ^ 40
parts_top n parts few some i h =
    rw (live_at (λ i. share_up one (slice_index parts i) (sum_below n (slice_index parts))) n i few h) (share_top n parts some i h)

-- what a box of compositions keeps
pub record IsBox (x : Box) : Type 0 where
  pub ordered : IsTrue (is_each_at_most 4 x.lo x.hi)
  pub inside : IsTrue (is_each_up_to 4 x.hi one)
  pub not_above : sum_below 4 (slice_index x.lo) ≤ one
  pub not_below : one ≤ sum_below 4 (slice_index x.hi)

pub parts_box : (n : ℕ) (parts : List ℕ) → n ≤ 4 → 0 < sum_below n (slice_index parts) → IsBox (box_of_parts n parts)
parts_box n parts few some =
    record {
      ordered = all_below-from 4 (λ i. nat_le (slice_index box.lo i) (slice_index box.hi i)) (λ i l. le-leb _ _ (ordered i l));
      inside = all_below-from 4 (λ i. nat_le (slice_index box.hi i) one) (λ i l. le-leb _ _ (inside i l));
      not_above = rw (live_sum floor n few) (le_of_mul-le-mul_right {k = m} (let l = floors in omega (arith, l)) some);
      not_below = rw (live_sum ceiling n few) (le_of_mul-le-mul_right {k = m} (let l = ceilings in omega (arith, l)) some);
    }
  where
    m : ℕ
    m = sum_below n (slice_index parts)

    box : Box
    box = box_of_parts n parts

    floor : ℕ → ℕ
    floor i = share_down one (slice_index parts i) m

    ceiling : ℕ → ℕ
    ceiling i = share_up one (slice_index parts i) m

    ordered : (i : ℕ) → i < 4 → slice_index box.lo i ≤ slice_index box.hi i
    ordered i l =
        rw (get_or-list_below 4 (live n floor) 0 i l, get_or-list_below 4 (live n ceiling) 0 i l)
        (live_ordered (nat_lt i n) (floor i) (ceiling i) (floor-le-ceiling (slice_index parts i * one) m some))

    inside : (i : ℕ) → i < 4 → slice_index box.hi i ≤ one
    inside i l =
        rw (get_or-list_below 4 (live n ceiling) 0 i l)
        (live_up_to (nat_lt i n) (ceiling i) one (λ t. share_top n parts some i (ltb-true i n t)))

    floors : sum_below n floor * m ≤ m * one
    floors = sum_below-scaled n floor (slice_index parts) m one (λ i l. div-mul-le_self (slice_index parts i * one) m)

    ceilings : m * one ≤ sum_below n ceiling * m
    ceilings = sum_below-scaled n (slice_index parts) ceiling one m (λ i l. le-ceiling (slice_index parts i * one) m some)
