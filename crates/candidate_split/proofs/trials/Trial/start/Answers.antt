use Rattle.candidate_split.proofs.NearParts.{some_parts, few_parts}
use Rattle.candidate_split.proofs.trials.Trial.start.Goals as goal

pub settled-phase-requires-clause-some : goal.settled-phase-requires-clause-some
settled-phase-requires-clause-some c = some_parts c.args.params.now.case.n c.args.parts c.args.params.now.case.some c.requires.some

pub settled-phase-requires-clause-small : goal.settled-phase-requires-clause-small
settled-phase-requires-clause-small c = few_parts c.args.params.now.case.n c.args.parts c.args.params.now.case.few c.requires.few
