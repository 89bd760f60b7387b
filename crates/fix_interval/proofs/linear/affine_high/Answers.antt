use Rattle.std.proofs.Common.{◌∙◌, arith}
use Rattle.log_laws.proofs.Exports.{back}
use Rattle.fix_interval.proofs.linear.affine_high.Goals as goal

pub returns-clause-value : goal.returns-clause-value
returns-clause-value c =
    let all = c.rounded_up.ensures.small in
    let sum = c.risen.ensures.small in
    let rises = c.rises.ensures.small in
    let last = rw (back c.args.last (omega (arith, c.requires.last)), back c.rises.result (omega (arith, rises))) at c.risen.ensures.value in
    let value = rw (back c.risen.result (omega (arith, sum)), last, c.rises.ensures.value, back c.args.less (omega (arith, c.requires.less))) at c.rounded_up.ensures.value in
    back c.rounded_up.result (omega (arith, all)) ∙ value
