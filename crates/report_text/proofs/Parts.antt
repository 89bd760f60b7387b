-- The parts of a phase.
use Rattle.std.proofs.Common.{ℕ, true, ◌≡◌, ◌<◌, ◌≤◌, ◌^◌, List, slice_index, arith}
use Rattle.log_laws.specs.Sums.{sum_below}
use Rattle.log_laws.proofs.Exports.{sum_below-fewer}
use Rattle.case_types.specs.Ranges.{are_parts}
use Rattle.case_types.proofs.Exports.{part_small}

-- the parts of the first n components are small together
pub parts_small : (n : ℕ) (parts : List ℕ) → n ≤ 4 → are_parts parts ≡ true → sum_below n (slice_index parts) < 2 ^ 106
parts_small n parts few is =
    omega (
      arith,
      sum_below-fewer n 4 (slice_index parts) few,
      part_small parts 0 (omega arith) is,
      part_small parts 1 (omega arith) is,
      part_small parts 2 (omega arith) is,
      part_small parts 3 (omega arith) is,
    )
