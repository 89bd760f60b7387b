use Rattle.std.proofs.Common.{◌≡◌, ◌+◌, length}
use Rattle.candidate_split.proofs.starts.starts.Given as goal

abbrev pub invariant-loop-i : goal.invariant-loop-i
invariant-loop-i l = length l.trials.items ≡ l.i + 3
