-- The middle of a cell, and that it lies in the cell's box.
use Rattle.std.proofs.Common.{ℕ, zero, suc, ◌*◌, ◌^◌, ◌≤◌, List, IsTrue, slice_index, arith}
use Rattle.log_laws.specs.Sums.{list_below}
use Rattle.case_types.specs.Grid.Cells.{Region, box_of_region, middle_point}
use Rattle.case_types.specs.Ranges.{is_each_at_most}
use Rattle.density_boxes.proofs.Lists.{at_most_at, four_at_most}

-- the fractions of all components in the middle, in 2^-40
abbrev pub middle_in : ℕ → Region → List ℕ
middle_in n r = list_below 4 (λ i. slice_index (middle_point n r).composition i * 2 ^ 20)

low_by_count : (n : ℕ) (r : Region) → 1 ≤ n → n ≤ 4 → slice_index r.lo 0 ≤ slice_index r.hi 0 → slice_index r.lo 1 ≤ slice_index r.hi 1 →
    slice_index r.lo 2 ≤ slice_index r.hi 2 → IsTrue (is_each_at_most 4 (box_of_region n r).lo (middle_in n r))
unfolding list_below
low_by_count zero r h l a b c = absurd (omega (arith, h))
low_by_count (suc zero) r h l a b c = four_at_most (box_of_region 1 r).lo (middle_in 1 r) (omega arith) (omega arith) (omega arith) (omega arith)
low_by_count (suc (suc zero)) r h l a b c = four_at_most (box_of_region 2 r).lo (middle_in 2 r) (omega arith) (omega arith) (omega arith) (omega arith)
low_by_count (suc (suc (suc zero))) r h l a b c = four_at_most (box_of_region 3 r).lo (middle_in 3 r) (omega arith) (omega arith) (omega arith) (omega arith)
low_by_count (suc (suc (suc (suc zero)))) r h l a b c = four_at_most (box_of_region 4 r).lo (middle_in 4 r) (omega arith) (omega arith) (omega arith) (omega arith)
low_by_count (suc (suc (suc (suc (suc n))))) r h l a b c = absurd (omega (arith, l))

high_by_count : (n : ℕ) (r : Region) → 1 ≤ n → n ≤ 4 → slice_index r.lo 0 ≤ slice_index r.hi 0 → slice_index r.lo 1 ≤ slice_index r.hi 1 →
    slice_index r.lo 2 ≤ slice_index r.hi 2 → IsTrue (is_each_at_most 4 (middle_in n r) (box_of_region n r).hi)
unfolding list_below
high_by_count zero r h l a b c = absurd (omega (arith, h))
high_by_count (suc zero) r h l a b c = four_at_most (middle_in 1 r) (box_of_region 1 r).hi (omega arith) (omega arith) (omega arith) (omega arith)
high_by_count (suc (suc zero)) r h l a b c = four_at_most (middle_in 2 r) (box_of_region 2 r).hi (omega arith) (omega arith) (omega arith) (omega arith)
high_by_count (suc (suc (suc zero))) r h l a b c = four_at_most (middle_in 3 r) (box_of_region 3 r).hi (omega arith) (omega arith) (omega arith) (omega arith)
high_by_count (suc (suc (suc (suc zero)))) r h l a b c = four_at_most (middle_in 4 r) (box_of_region 4 r).hi (omega arith) (omega arith) (omega arith) (omega arith)
high_by_count (suc (suc (suc (suc (suc n))))) r h l a b c = absurd (omega (arith, l))

pub low_below_middle : (n : ℕ) (r : Region) → 1 ≤ n → n ≤ 4 → IsTrue (is_each_at_most 3 r.lo r.hi) → IsTrue (is_each_at_most 4 (box_of_region n r).lo (middle_in n r))
low_below_middle n r h l ordered =
    low_by_count n r h l (at_most_at 3 r.lo r.hi 0 (omega arith) ordered) (at_most_at 3 r.lo r.hi 1 (omega arith) ordered) (at_most_at 3 r.lo r.hi 2 (omega arith) ordered)

pub middle_below_high : (n : ℕ) (r : Region) → 1 ≤ n → n ≤ 4 → IsTrue (is_each_at_most 3 r.lo r.hi) → IsTrue (is_each_at_most 4 (middle_in n r) (box_of_region n r).hi)
middle_below_high n r h l ordered =
    high_by_count n r h l (at_most_at 3 r.lo r.hi 0 (omega arith) ordered) (at_most_at 3 r.lo r.hi 1 (omega arith) ordered) (at_most_at 3 r.lo r.hi 2 (omega arith) ordered)
