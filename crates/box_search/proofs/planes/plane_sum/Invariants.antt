use Rattle.std.proofs.Common.{◌≡◌, ◌*◌, ◌^◌, ◌≤◌, pos, ◌*ℤ◌, unsigned_abs, slice_index, slice_index_or}
use Rattle.log_laws.specs.Sums.{int_sum_below}
use Rattle.box_search.proofs.planes.plane_sum.Given as goal

abbrev pub invariant-loop-i : goal.invariant-loop-i
invariant-loop-i l = record {
  whole : l.sum ≡ int_sum_below l.i (λ i. slice_index_or l.plane.lam i (pos 0) *ℤ pos (slice_index l.parts i));
  small : unsigned_abs l.sum ≤ l.i * 2 ^ 112;
}
