use Rattle.std.proofs.Common.{slice_index, arith}
use Rattle.log_laws.proofs.Exports.{sum_below-fewer}
use Rattle.helmholtz_density.proofs.tests.box_of_phase.Goals as goal

pub phase_box-requires-clause-small : goal.phase_box-requires-clause-small
phase_box-requires-clause-small c =
    let n = c.like_components.ensures in
    let all = sum_below-fewer c.like_components.result.n 4 (slice_index c.args.parts) (omega (arith, n, c.requires.few)) in
    omega (arith, all)
