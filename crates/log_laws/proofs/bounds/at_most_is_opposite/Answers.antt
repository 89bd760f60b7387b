use Rattle.log_laws.proofs.Opposite.{at_most_is_opposite}
use Rattle.log_laws.proofs.bounds.at_most_is_opposite.Goals as goal

pub returns : goal.returns
returns c = at_most_is_opposite
