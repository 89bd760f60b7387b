use Rattle.std.proofs.Common.{◌≤◌, ◌^◌, pos, ◌≤ℤ◌, ◌-◌, ◌<◌}
use Rattle.std.specs.Prelude.{◌<ℤ◌}
use Rattle.rachford_rice.specs.Sum.{rachford_rice}
use Rattle.rachford_rice.proofs.shares.inside.Given as goal

abbrev pub invariant-loop-hi : goal.invariant-loop-hi
invariant-loop-hi l = record {
  apart : l.lo < l.hi;
  in_range : l.hi ≤ 2 ^ 20;
  not_below : pos 0 ≤ℤ rachford_rice l.case l.k l.lo;
  below : rachford_rice l.case l.k l.hi <ℤ pos 0;
}

abbrev pub decreases-loop-hi : goal.decreases-loop-hi
decreases-loop-hi l = l.hi - l.lo
