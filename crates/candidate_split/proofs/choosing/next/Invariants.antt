use Rattle.std.proofs.Common.{◌≡◌, ◌≤◌, length, IsSome, IfSome}
use Rattle.std.specs.List.{Contains}
use Rattle.candidate_split.proofs.choosing.next.Given as goal

abbrev pub invariant-loop-near : goal.invariant-loop-near
invariant-loop-near l = record {
  first : length l.chosen.items ≡ 0 → 1 ≤ l.near-index → IsSome l.best;
  theirs : IfSome l.best (Contains l.points.items);
}
