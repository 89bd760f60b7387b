use Rattle.std.proofs.Common.{◌^◌, arith}
use Rattle.candidate_split.proofs.Phases.{sum_small, sum_some}
use Rattle.candidate_split.proofs.polishing.stepped.Goals as goal

pub settled-requires-clause-some : goal.settled-requires-clause-some
settled-requires-clause-some c = sum_some c.args.params.now.case.n c.loop-step.parts c.args.params.now.case.some c.loop-step.invariant.live

pub settled-requires-clause-small : goal.settled-requires-clause-small
settled-requires-clause-small c =
    sum_small c.args.params.now.case.n (2 ^ 32) c.loop-step.parts c.args.params.now.case.few (omega arith) (λ i h. c.loop-step.invariant.small i)
