use Rattle.std.proofs.Common.{slice_index, arith}
use Rattle.log_laws.proofs.Exports.{sum_below-fewer}
use Rattle.density_boxes.proofs.tests.ends_of_fractions.Goals as goal

pub moles-sum-requires-clause-small : goal.moles-sum-requires-clause-small
moles-sum-requires-clause-small c =
    let all = sum_below-fewer c.args.n 4 (slice_index c.args.parts) c.requires in
    omega (arith, all)

pub fraction_ends-requires-3-clause-small : goal.fraction_ends-requires-3-clause-small
fraction_ends-requires-3-clause-small c =
    let all = sum_below-fewer c.args.n 4 (slice_index c.args.parts) c.requires in
    omega (arith, all, c.moles-sum.ensures)
