use Rattle.log_laws.proofs.Sums.{at_least_adds}
use Rattle.log_laws.proofs.bounds.at_least_adds.Goals as goal

pub returns : goal.returns
returns c = at_least_adds
