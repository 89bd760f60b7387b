use Rattle.std.proofs.Common.{slice_index, arith}
use Rattle.log_laws.proofs.Exports.{le-sum_below}
use Rattle.density_boxes.proofs.compositions.fraction_ends.Goals as goal

pub grid_ends-requires-clause-inside : goal.grid_ends-requires-clause-inside
grid_ends-requires-clause-inside c =
    let part = le-sum_below c.args.n c.args.i (slice_index c.args.phase.now.parts) c.if-i-n.true in
    omega (arith, part, c.requires.sum)
