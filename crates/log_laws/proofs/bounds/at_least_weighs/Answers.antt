use Rattle.log_laws.proofs.Weighing.{at_least_weighs}
use Rattle.log_laws.proofs.bounds.at_least_weighs.Goals as goal

pub returns : goal.returns
returns c = at_least_weighs
