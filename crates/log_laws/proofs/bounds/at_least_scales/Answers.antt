use Rattle.log_laws.proofs.Sums.{at_least_scales}
use Rattle.log_laws.proofs.bounds.at_least_scales.Goals as goal

pub returns : goal.returns
returns c = at_least_scales
