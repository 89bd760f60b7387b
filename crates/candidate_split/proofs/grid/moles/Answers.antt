use Rattle.std.proofs.Common.{◌+◌, slice_index, arith}
use Rattle.log_laws.proofs.Exports.{sum_below-more, sum_below-fewer}
use Rattle.candidate_split.proofs.grid.moles.Goals as goal

pub overflow_add-sum : goal.overflow_add-sum
overflow_add-sum c =
    let more = sum_below-more c.loop-i.i (slice_index c.args.parts.now) in
    let room = sum_below-fewer (c.loop-i.i + 1) c.args.n (slice_index c.args.parts.now) (omega (arith, c.loop-i-test.true)) in
    omega (arith, c.loop-i.invariant.whole, more, room, c.requires.small)
