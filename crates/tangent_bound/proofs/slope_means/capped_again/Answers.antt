use Rattle.std.proofs.Common.{arith}
use Rattle.log_laws.proofs.Exports.{back}
use Rattle.slope_form.proofs.Exports.{capped_from}
use Rattle.tangent_bound.proofs.slope_means.capped_again.Goals as goal

pub returns : goal.returns
returns c =
    let v = c.args.v in
    capped_from _ _ v.lo v.hi c.cap.result (back v.lo (omega (arith, v.lo_small))) (back v.hi (omega (arith, v.hi_small))) c.cap.ensures.some c.cap.ensures.ends
