use Rattle.std.proofs.Common.{arith}
use Rattle.std.proofs.lemmas.List.Elements.{All-get_or}
use Rattle.case_types.proofs.Exports.{total_positive}
use Rattle.split_energies.proofs.Exports.{feed_parts_sum}
use Rattle.cubic_roots.specs.Pressures.{IsPlace}
use Rattle.candidate_split.proofs.list.put_places.Goals as goal

pub phase_box-requires-clause-some : goal.phase_box-requires-clause-some
phase_box-requires-clause-some c =
    let case = c.args.params.now.case in
    rw c.feed_as_phase.ensures (omega (arith, feed_parts_sum case 1, total_positive case))

pub phase_box-requires-clause-small : goal.phase_box-requires-clause-small
phase_box-requires-clause-small c =
    let case = c.args.params.now.case in
    rw c.feed_as_phase.ensures (omega (arith, feed_parts_sum case 1, case.total_high))

pub put_feed-requires-clause-some : goal.put_feed-requires-clause-some
put_feed-requires-clause-some c =
    let places = c.packings-places in
    rw c.deref.ensures.0 (All-get_or IsPlace places.result.items c.loop-k.k 0 (omega arith) places.ensures.inside).0

pub put_feed-requires-clause-inside : goal.put_feed-requires-clause-inside
put_feed-requires-clause-inside c =
    let places = c.packings-places in
    rw c.deref.ensures.0 (let place = All-get_or IsPlace places.result.items c.loop-k.k 0 (omega arith) places.ensures.inside in omega (arith, place.1))
