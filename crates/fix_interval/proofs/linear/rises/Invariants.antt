use Rattle.std.proofs.Common.{◌≡◌, ◌*◌, ◌^◌, ◌≤◌, pos, ◌-ℤ◌, unsigned_abs, slice_index, slice_index_or}
use Rattle.log_laws.specs.Linear.{rises}
use Rattle.fix_interval.proofs.linear.rises.Given as goal

abbrev pub invariant-loop-i : goal.invariant-loop-i
invariant-loop-i l = record {
  whole : l.sum ≡ rises l.i (λ i. slice_index_or l.numbers i (pos 0) -ℤ l.less) (slice_index l.lo) (slice_index l.hi);
  small : unsigned_abs l.sum ≤ l.i * 2 ^ 121;
}
