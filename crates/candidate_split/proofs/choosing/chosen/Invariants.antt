use Rattle.std.proofs.Common.{◌≤◌, length}
use Rattle.std.specs.List.{All, Contains}
use Rattle.candidate_split.proofs.choosing.chosen.Given as goal

abbrev pub invariant-loop-round : goal.invariant-loop-round
invariant-loop-round l = record {
  few : length l.chosen.items ≤ l._round;
  some : 1 ≤ l._round → 1 ≤ length l.points.items → 1 ≤ length l.chosen.items;
  theirs : All (Contains l.points.items) l.chosen.items;
}
