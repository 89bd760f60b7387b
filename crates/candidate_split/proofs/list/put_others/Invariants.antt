use Rattle.std.specs.List.{All}
use Rattle.candidate_split.specs.Candidates.{IsCandidate}
use Rattle.candidate_split.proofs.list.put_others.Given as goal

abbrev pub invariant-loop-k : goal.invariant-loop-k
invariant-loop-k l = All (IsCandidate l.params.case) l.list.items
