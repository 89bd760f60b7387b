use Rattle.log_laws.proofs.Opposite.{at_least_powers}
use Rattle.log_laws.proofs.logarithms.at_least_powers.Goals as goal

pub returns : goal.returns
returns c = at_least_powers
