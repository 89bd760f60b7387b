use Rattle.log_laws.proofs.Arguments.{at_least_takes_larger}
use Rattle.log_laws.proofs.logarithms.at_least_takes_larger.Goals as goal

pub returns : goal.returns
returns c = at_least_takes_larger
