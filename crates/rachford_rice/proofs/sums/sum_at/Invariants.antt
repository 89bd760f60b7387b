use Rattle.std.proofs.Common.{◌≡◌, ◌≤◌, ◌*◌, ◌^◌, unsigned_abs, slice_index}
use Rattle.log_laws.specs.Sums.{int_sum_below}
use Rattle.rachford_rice.specs.Sum.{transfer}
use Rattle.rachford_rice.proofs.sums.sum_at.Given as goal

abbrev pub invariant-loop-i : goal.invariant-loop-i
invariant-loop-i l = record {
  value : l.sum ≡ int_sum_below l.i (λ i. transfer (slice_index l.case.z i) (slice_index l.k i) l.v);
  small : unsigned_abs l.sum ≤ l.i * 2 ^ 112;
}
