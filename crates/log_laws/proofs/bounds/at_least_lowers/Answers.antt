use Rattle.log_laws.proofs.Sums.{at_least_lowers}
use Rattle.log_laws.proofs.bounds.at_least_lowers.Goals as goal

pub returns : goal.returns
returns c = at_least_lowers
