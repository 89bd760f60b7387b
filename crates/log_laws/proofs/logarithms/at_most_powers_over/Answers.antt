use Rattle.log_laws.proofs.Opposite.{at_most_powers_over}
use Rattle.log_laws.proofs.logarithms.at_most_powers_over.Goals as goal

pub returns : goal.returns
returns c = at_most_powers_over
