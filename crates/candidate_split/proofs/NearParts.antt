-- Parts of phases of the near flash, and of the feed.
use Rattle.std.proofs.Common.{ℕ, ◌<◌, ◌≤◌, ◌^◌, List, slice_index, arith}
use Rattle.log_laws.specs.Sums.{sum_below}
use Rattle.log_laws.proofs.Exports.{le-sum_below, sum_below-fewer}

pub some_parts : (n : ℕ) (parts : List ℕ) → 1 ≤ n → 1 ≤ slice_index parts 0 → 1 ≤ sum_below n (slice_index parts)
some_parts n parts one some = omega (arith, some, le-sum_below n 0 (slice_index parts) (omega (arith, one)))

pub few_parts : (n : ℕ) (parts : List ℕ) → n ≤ 4 → sum_below 4 (slice_index parts) ≤ 2 ^ 35 → sum_below n (slice_index parts) < 2 ^ 106
few_parts n parts four few = omega (arith, few, sum_below-fewer n 4 (slice_index parts) four)
