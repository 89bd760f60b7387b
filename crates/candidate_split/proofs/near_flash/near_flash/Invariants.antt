use Rattle.std.proofs.Common.{◌≤◌, length}
use Rattle.candidate_split.proofs.near_flash.near_flash.Given as goal

abbrev pub invariant-loop-turn : goal.invariant-loop-turn
invariant-loop-turn l = 1 ≤ length l.trials.items
