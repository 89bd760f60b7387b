use Rattle.std.proofs.Common.{◌≡◌, ◌≤◌, ◌<◌, ◌-◌, true, false}
use Rattle.cubic_roots.specs.Middles.{is_above}
use Rattle.cubic_roots.proofs.places.rise.Given as goal

abbrev pub invariant-loop-above : goal.invariant-loop-above
invariant-loop-above l = record {
  from_end : l.fn.from ≤ l.below;
  ordered : l.below < l.above;
  to_end : l.above ≤ l.fn.to;
  from_below : is_above l.middles l.below ≡ false;
  to_above : is_above l.middles l.above ≡ true;
}

abbrev pub decreases-loop-above : goal.decreases-loop-above
decreases-loop-above l = l.above - l.below
