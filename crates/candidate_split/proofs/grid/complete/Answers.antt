use Rattle.std.proofs.Common.{◌<◌, slice_index, arith}
use Rattle.log_laws.proofs.Exports.{le-sum_below}
use Rattle.candidate_split.proofs.Greatest.{greatest_inside}
use Rattle.candidate_split.proofs.grid.complete.Goals as goal

pub overflow_add-whole : goal.overflow_add-whole
overflow_add-whole c =
    let inside : c.greatest-most.result < c.args.n = rw c.greatest-most.ensures.value (greatest_inside c.args.fractions c.args.n c.requires.some) in
    omega (arith, le-sum_below c.args.n c.greatest-most.result (slice_index c.args.fractions) inside, c.requires.room)
