use Rattle.std.proofs.Common.{◌∙◌, arith}
use Rattle.log_laws.proofs.Exports.{back}
use Rattle.pr_params.proofs.lambdas.lam_hi.Goals as goal

pub returns-clause-value : goal.returns-clause-value
returns-clause-value c =
    let small = c.lambda_ends.ensures.hi_small in
    back c.lambda_ends.result.hi (omega (arith, small)) ∙ c.lambda_ends.ensures.hi c.args._params.now.case

pub returns-clause-at_most : goal.returns-clause-at_most
returns-clause-at_most c = λ x packing inst is_packing order.
    let small = c.lambda_ends.ensures.hi_small in
    rw (back c.lambda_ends.result.hi (omega (arith, small))) (c.lambda_ends.ensures.at_most c.args._params.now.case x packing inst is_packing order)
