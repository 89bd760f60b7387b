use Rattle.std.proofs.Common.{arith}
use Rattle.case_types.proofs.Exports.{total_positive}
use Rattle.split_energies.proofs.Exports.{feed_parts_sum}
use Rattle.candidate_split.proofs.list.put_first.Goals as goal

pub settled-requires-clause-some : goal.settled-requires-clause-some
settled-requires-clause-some c =
    let case = c.args.params.now.case in
    rw c.feed_as_phase-feed.ensures (omega (arith, feed_parts_sum case 1, total_positive case))

pub settled-requires-clause-small : goal.settled-requires-clause-small
settled-requires-clause-small c =
    let case = c.args.params.now.case in
    rw c.feed_as_phase-feed.ensures (omega (arith, feed_parts_sum case 1, case.total_high))
