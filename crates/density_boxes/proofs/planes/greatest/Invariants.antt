use Rattle.std.proofs.Common.{◌≡◌, ◌^◌, ◌<◌, pos, unsigned_abs, slice_index_or}
use Rattle.log_laws.specs.Sums.{greatest_below}
use Rattle.density_boxes.proofs.planes.greatest.Given as goal

abbrev pub invariant-loop-i : goal.invariant-loop-i
invariant-loop-i l = record {
  whole : l.most ≡ greatest_below l.i (λ i. slice_index_or l.plane.lam i (pos 0)) (slice_index_or l.plane.lam 0 (pos 0));
  small : unsigned_abs l.most < 2 ^ 80;
}
