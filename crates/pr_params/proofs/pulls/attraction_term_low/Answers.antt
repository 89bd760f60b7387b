use Rattle.std.proofs.Common.{◌∙◌, arith}
use Rattle.log_laws.proofs.Exports.{back}
use Rattle.case_types.specs.Arithmetic.Numbers.{numbers_of}
use Rattle.pr_params.proofs.Accepted.{two_hi_is}
use Rattle.pr_params.proofs.AttractionTerm.{term_low_is}
use Rattle.pr_params.proofs.pulls.attraction_term_low.Goals as goal

pub returns-clause-value : goal.returns-clause-value
returns-clause-value c = λ case y logs.
    let l = c.args.logs.now in
    let w = c.weighed.ensures.small in
    let f = c.floored.ensures.small in
    let product = rw (back c.args.ratio (omega (arith, c.requires)), back l.lambda_low (omega (arith, l.lambda_low_small)), logs.lambda_low) at c.weighed.ensures.value in
    back c.floored.result (omega (arith, f))
    ∙ term_low_is (numbers_of case) c.args.ratio c.weighed.result c.floored.result y 1630477228166597777 product
    (rw (back c.weighed.result (omega (arith, w))) at c.floored.ensures.value) (two_hi_is case)
