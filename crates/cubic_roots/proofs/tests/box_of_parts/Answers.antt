use Rattle.std.proofs.Common.{slice_index, arith}
use Rattle.log_laws.proofs.Exports.{sum_below-fewer}
use Rattle.cubic_roots.proofs.tests.box_of_parts.Goals as goal

pub moles-requires-clause-small : goal.moles-requires-clause-small
moles-requires-clause-small c =
    let all = sum_below-fewer c.args.case.now.n 4 (slice_index c.args.parts) c.args.case.now.few in
    omega (arith, all)

pub phase_box-requires-clause-small : goal.phase_box-requires-clause-small
phase_box-requires-clause-small c =
    let all = sum_below-fewer c.args.case.now.n 4 (slice_index c.args.parts) c.args.case.now.few in
    omega (arith, all)
