use Rattle.std.proofs.Common.{arith}
use Rattle.log_enclose.proofs.SquaresUp.{up_none_one, up_none_more}
use Rattle.log_enclose.proofs.digits.rounded_up.Goals as goal

pub returns-then-at-clause-value : goal.returns-then-at-clause-value
returns-then-at-clause-value c = omega (arith, up_none_one c.args.at c.if-at.true)

pub returns-else-at-clause-value : goal.returns-else-at-clause-value
returns-else-at-clause-value c = omega (arith, up_none_more c.args.at c.if-at.false)
