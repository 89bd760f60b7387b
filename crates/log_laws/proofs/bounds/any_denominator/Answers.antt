use Rattle.log_laws.proofs.Sums.{any_denominator}
use Rattle.log_laws.proofs.bounds.any_denominator.Goals as goal

pub returns : goal.returns
returns c = any_denominator
