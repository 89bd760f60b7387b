use Rattle.std.proofs.Common.{◌^◌, arith}
use Rattle.candidate_split.proofs.Phases.{sum_small, sum_some}
use Rattle.candidate_split.proofs.polishing.column_of.Goals as goal

pub to_grid-comp-requires-clause-some : goal.to_grid-comp-requires-clause-some
to_grid-comp-requires-clause-some g c = sum_some c.args.params.now.case.n c.args.parts.now c.args.params.now.case.some c.requires.live

pub to_grid-comp-requires-clause-small : goal.to_grid-comp-requires-clause-small
to_grid-comp-requires-clause-small g c =
    sum_small c.args.params.now.case.n (2 ^ 32) c.args.parts.now c.args.params.now.case.few (omega arith) (λ i h. c.requires.small i)
