use Rattle.std.proofs.Common.{slice_index, arith}
use Rattle.log_laws.proofs.Exports.{le-sum_below}
use Rattle.candidate_split.proofs.two_phases.feed_of.Goals as goal

pub returns-then-i-case-clause-small : goal.returns-then-i-case-clause-small
returns-then-i-case-clause-small c =
    let case = c.args.case.now in
    let part = le-sum_below case.n c.args.i (slice_index case.z) c.if-i-case.true in
    omega (arith, part, case.added, case.total_high)
