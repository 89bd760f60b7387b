use Rattle.std.proofs.Common.{◌∙◌, arith}
use Rattle.log_laws.proofs.Exports.{back}
use Rattle.pr_params.proofs.lambdas.lam_lo.Goals as goal

pub returns-clause-value : goal.returns-clause-value
returns-clause-value c =
    let small = c.lambda_ends.ensures.lo_small in
    back c.lambda_ends.result.lo (omega (arith, small)) ∙ c.lambda_ends.ensures.lo c.args._params.now.case

pub returns-clause-at_least : goal.returns-clause-at_least
returns-clause-at_least c = λ x packing inst is_packing order.
    let small = c.lambda_ends.ensures.lo_small in
    rw (back c.lambda_ends.result.lo (omega (arith, small))) (c.lambda_ends.ensures.at_least c.args._params.now.case x packing inst is_packing order)
