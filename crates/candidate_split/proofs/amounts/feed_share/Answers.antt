use Rattle.std.proofs.Common.{◌*◌, ◌^◌, slice_index, arith}
use Rattle.std.proofs.Math.Nat.{div-le_of_le-mul}
use Rattle.log_laws.proofs.Exports.{le-sum_below}
use Rattle.case_types.proofs.Exports.{total_positive}
use Rattle.candidate_split.proofs.amounts.feed_share.Goals as goal

pub nonzero_div-result : goal.nonzero_div-result
nonzero_div-result c = total_positive c.args.case.now

pub overflow_cast-result-then-i-case-3 : goal.overflow_cast-result-then-i-case-3
overflow_cast-result-then-i-case-3 c =
    let v = c.args.case.now in
    let inside = le-sum_below v.n c.args.i (slice_index v.z) c.if-i-case.true in
    let share = div-le_of_le-mul v.total {m = slice_index v.z c.args.i * 2 ^ 30} {n = 2 ^ 30} (omega (arith, inside, v.added)) in
    omega (arith, share)
