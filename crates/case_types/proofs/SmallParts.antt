-- The parts of a phase.
use Rattle.std.proofs.Common.{ℕ, true, ◌≡◌, ◌<◌, ◌^◌, List, slice_index}
use Rattle.std.specs.Prelude.{nat_lt, nat_le}
use Rattle.std.proofs.lemmas.Bool.{ltb-true}
use Rattle.log_laws.specs.Sums.{all_below, sum_below}
use Rattle.log_laws.proofs.Exports.{all_below-at, and_true}
use Rattle.case_types.specs.Ranges.{are_parts}

-- each is small
pub part_small : (parts : List ℕ) (i : ℕ) → i < 4 → are_parts parts ≡ true → slice_index parts i < 2 ^ 104
part_small parts i h is =
    let each = (and_true (all_below 4 (λ i. nat_lt (slice_index parts i) (2 ^ 104))) (nat_le 1 (sum_below 4 (slice_index parts))) is).0 in
    ltb-true (slice_index parts i) (2 ^ 104) (all_below-at 4 (λ i. nat_lt (slice_index parts i) (2 ^ 104)) i h each)
