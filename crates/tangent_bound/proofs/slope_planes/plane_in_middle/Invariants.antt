use Rattle.std.proofs.Common.{◌≡◌, ◌*◌, ◌^◌, ◌≤◌, pos, ◌*ℤ◌, unsigned_abs, slice_index}
use Rattle.log_laws.specs.Sums.{int_sum_below}
use Rattle.case_types.specs.Arithmetic.Bounds.{potential}
use Rattle.tangent_bound.proofs.slope_planes.plane_in_middle.Given as goal

abbrev pub invariant-loop-i : goal.invariant-loop-i
invariant-loop-i l = record {
  whole : l.sum ≡ int_sum_below l.i (λ i. potential l.plane.lam i *ℤ pos (slice_index l.x.middle i));
  small : unsigned_abs l.sum ≤ l.i * 2 ^ 100;
}
