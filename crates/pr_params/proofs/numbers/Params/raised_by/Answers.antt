use Rattle.pr_params.proofs.Accepted.{lift_is, lift_small}
use Rattle.pr_params.proofs.numbers.Params.raised_by.Goals as goal

pub returns-clause-small : goal.returns-clause-small
returns-clause-small c = rw (lift_is c.args.self.now) (lift_small c.args.self.now.case)
