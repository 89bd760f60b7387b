use Rattle.std.proofs.Common.{take}
use Rattle.std.specs.List.{All}
use Rattle.candidate_split.specs.Candidates.{IsShallow}
use Rattle.candidate_split.proofs.list.is_shallow.Given as goal

-- so are those of the phases before this one
abbrev pub invariant-loop-phase : goal.invariant-loop-phase
invariant-loop-phase l = All (IsShallow l.params.case) (take l.phase-index l.split.phases.items)
