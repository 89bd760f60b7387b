use Rattle.log_laws.proofs.Indexed.{at_least_sums}
use Rattle.log_laws.proofs.bounds.at_least_sums.Goals as goal

pub returns : goal.returns
returns c = at_least_sums
