use Rattle.log_laws.proofs.Arguments.{at_least_multiplies}
use Rattle.log_laws.proofs.logarithms.at_least_multiplies.Goals as goal

pub returns : goal.returns
returns c = at_least_multiplies
