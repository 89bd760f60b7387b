use Rattle.candidate_split.proofs.NearParts.{some_parts, few_parts}
use Rattle.candidate_split.proofs.trials.Trial.settle.Goals as goal

pub settled-self-requires-clause-some : goal.settled-self-requires-clause-some
settled-self-requires-clause-some c = some_parts c.args.params.now.case.n c.args.self.now.phase.parts c.args.params.now.case.some c.args.self.now.some

pub settled-self-requires-clause-small : goal.settled-self-requires-clause-small
settled-self-requires-clause-small c = few_parts c.args.params.now.case.n c.args.self.now.phase.parts c.args.params.now.case.few c.args.self.now.few
