use Rattle.std.proofs.Common.{◌≡◌, ◌*◌, ◌^◌, ◌≤◌, unsigned_abs, slice_index}
use Rattle.log_laws.specs.Sums.{sum_below, int_sum_below}
use Rattle.case_types.specs.Arithmetic.Bounds.{mixing_up}
use Rattle.helmholtz_density.proofs.mixes.entropy.Given as goal

abbrev pub invariant-loop-i : goal.invariant-loop-i
invariant-loop-i l = record {
  whole : l.sum ≡ int_sum_below l.i (λ i. mixing_up (slice_index l.x.a i) (slice_index l.x.b i));
  small : unsigned_abs l.sum ≤ sum_below l.i (slice_index l.x.a) * 2 ^ 6;
}
