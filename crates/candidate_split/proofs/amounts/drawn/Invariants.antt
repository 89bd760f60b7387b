use Rattle.std.proofs.Common.{◌≤◌, ◌+◌, ◌*◌, ◌^◌}
use Rattle.candidate_split.proofs.amounts.drawn.Given as goal

abbrev pub invariant-loop-trial : goal.invariant-loop-trial
invariant-loop-trial l = record { some : 1 ≤ l.sum; few : l.sum ≤ 1 + l.trial-index * 2 ^ 32 }
