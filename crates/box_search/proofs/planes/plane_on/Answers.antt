use Rattle.std.proofs.Common.{◌∙◌, arith}
use Rattle.log_laws.proofs.Exports.{back}
use Rattle.box_search.proofs.PlaneAt.{plane_on_is}
use Rattle.box_search.proofs.planes.plane_on.Goals as goal

pub returns-clause-value : goal.returns-clause-value
returns-clause-value c =
    let s = c.rounded_down.ensures.small in
    let sum = c.plane_sum.ensures in
    back c.rounded_down.result (omega (arith, s))
    ∙ plane_on_is c.args.n c.args.plane.now.lam c.args.comp.now c.plane_sum.result c.rounded_down.result sum.value (rw (back c.plane_sum.result (omega (arith, sum.small))) at c.rounded_down.ensures.value)
