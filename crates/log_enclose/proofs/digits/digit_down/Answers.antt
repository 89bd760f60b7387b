use Rattle.std.proofs.Common.{◌*◌, ◌/◌, ◌^◌}
use Rattle.log_enclose.proofs.Squares.{square_low, square_high, shifted_down}
use Rattle.log_enclose.proofs.digits.digit_down.Goals as goal

pub returns-clause-normal : goal.returns-clause-normal
returns-clause-normal c = shifted_down (c.args.at * c.args.at / 2 ^ 61) (square_low c.args.at c.requires) (square_high c.args.at c.requires)
