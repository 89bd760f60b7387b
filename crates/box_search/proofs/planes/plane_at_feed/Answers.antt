use Rattle.std.proofs.Common.{◌∙◌, arith}
use Rattle.log_laws.proofs.Exports.{back}
use Rattle.case_types.proofs.Exports.{total_positive}
use Rattle.box_search.proofs.PlaneAt.{at_feed}
use Rattle.box_search.proofs.planes.plane_at_feed.Goals as goal

pub for_a_mole-requires-clause-total : goal.for_a_mole-requires-clause-total
for_a_mole-requires-clause-total c = total_positive c.args.case.now

pub returns-clause-value : goal.returns-clause-value
returns-clause-value c =
    let p = c.plane_sum.ensures in
    back c.for_a_mole.result (omega (arith, c.for_a_mole.ensures.small))
    ∙ at_feed c.args.case.now c.args.plane.now.lam c.plane_sum.result c.for_a_mole.result p.value (rw (back c.plane_sum.result (omega (arith, p.small))) at c.for_a_mole.ensures.value)
