use Rattle.std.proofs.Common.{◌∙◌, arith}
use Rattle.log_laws.proofs.Exports.{back, opposite_read}
use Rattle.case_types.specs.Arithmetic.Numbers.{numbers_of}
use Rattle.pr_params.proofs.Accepted.{two_lo_is}
use Rattle.pr_params.proofs.AttractionTerm.{term_high_is}
use Rattle.pr_params.proofs.pulls.attraction_term_high.Goals as goal

pub returns-clause-value : goal.returns-clause-value
returns-clause-value c = λ case y logs.
    let l = c.args.logs.now in
    let w = c.weighed.ensures.small in
    let f = c.floored.ensures.small in
    let product = rw (back c.args.ratio (omega (arith, c.requires)), back l.lambda_high (omega (arith, l.lambda_high_small)), logs.lambda_high) at c.weighed.ensures.value in
    opposite_read c.floored.result (omega (arith, f))
    ∙ term_high_is (numbers_of case) c.args.ratio c.weighed.result c.floored.result y 1630477228166597776 product
    (rw (opposite_read c.weighed.result (omega (arith, w))) at c.floored.ensures.value) (two_lo_is case)
