use Rattle.std.proofs.Common.{◌≡◌, length}
use Rattle.std.specs.List.{All}
use Rattle.candidate_split.specs.Points.{IsNear}
use Rattle.candidate_split.proofs.choosing.points_of.Given as goal

abbrev pub invariant-loop-trial : goal.invariant-loop-trial
invariant-loop-trial l = record { along : length l.points.items ≡ l.trial-index; near : All (IsNear l.n) l.points.items }
