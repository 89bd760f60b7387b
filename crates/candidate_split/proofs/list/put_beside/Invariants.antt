use Rattle.std.specs.List.{All}
use Rattle.candidate_split.specs.Candidates.{IsCandidate}
use Rattle.candidate_split.proofs.list.put_beside.Given as goal

abbrev pub invariant-loop-i : goal.invariant-loop-i
invariant-loop-i l = All (IsCandidate l.params.case) l.list.items
