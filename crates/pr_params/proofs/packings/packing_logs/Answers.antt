use Rattle.std.proofs.Common.{◌∙◌, refl, arith}
use Rattle.log_laws.proofs.Exports.{back}
use Rattle.pr_params.proofs.packings.packing_logs.Goals as goal

pub returns-clause-logs : goal.returns-clause-logs
returns-clause-logs c = λ case.
    let packing = c.log_ends-packing.ensures in
    let rest = c.log_ends-rest.ensures in
    let lambda = c.lambda_ends-lambda.ensures in
    record {
      packing = refl;
      packing_low = back c.log_ends-packing.result.lo (omega (arith, packing.lo_small)) ∙ packing.lo;
      packing_high = back c.log_ends-packing.result.hi (omega (arith, packing.hi_small)) ∙ packing.hi;
      rest_low = back c.log_ends-rest.result.lo (omega (arith, rest.lo_small)) ∙ rest.lo;
      rest_high = back c.log_ends-rest.result.hi (omega (arith, rest.hi_small)) ∙ rest.hi;
      lambda_low = back c.lambda_ends-lambda.result.lo (omega (arith, lambda.lo_small)) ∙ lambda.lo case;
      lambda_high = back c.lambda_ends-lambda.result.hi (omega (arith, lambda.hi_small)) ∙ lambda.hi case;
    }
