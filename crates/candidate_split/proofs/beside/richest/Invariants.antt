use Rattle.candidate_split.specs.TwoPhases.{IsComposition}
use Rattle.candidate_split.proofs.beside.richest.Given as goal

abbrev pub invariant-loop-k : goal.invariant-loop-k
invariant-loop-k l = IsComposition l.n l.comp
