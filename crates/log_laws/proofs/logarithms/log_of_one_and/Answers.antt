use Rattle.log_laws.proofs.LogsOfE.{log_of_one_and}
use Rattle.log_laws.proofs.logarithms.log_of_one_and.Goals as goal

pub returns : goal.returns
returns c = log_of_one_and
