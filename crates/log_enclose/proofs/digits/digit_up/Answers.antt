use Rattle.log_enclose.proofs.SquaresUp.{squared, squared_low, squared_high, shifted_up}
use Rattle.log_enclose.proofs.digits.digit_up.Goals as goal

pub returns-clause-normal : goal.returns-clause-normal
returns-clause-normal c = shifted_up (squared c.args.at) (squared_low c.args.at c.requires) (squared_high c.args.at c.requires)
