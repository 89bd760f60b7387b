use Rattle.std.proofs.Common.{◌≡◌, ◌*◌, ◌^◌, sym, arith}
use Rattle.std.specs.Prelude.{nat_le}
use Rattle.std.proofs.lemmas.Bool.{le-leb, lt-leb}
use Rattle.log_laws.proofs.Exports.{all_below-fails, all_below-more}
use Rattle.split_energies.specs.Feeds.{feed_part}
use Rattle.candidate_split.specs.TwoPhases.{vapour_part}
use Rattle.candidate_split.proofs.two_phases.fits.Goals as goal

pub returns-then-part_of_vapour-part_of_feed : goal.returns-then-part_of_vapour-part_of_feed
returns-then-part_of_vapour-part_of_feed c =
    let case = c.args.case.now in
    let more = rw (c.part_of_vapour.ensures.value, c.part_of_feed.ensures.value) at c.if-part_of_vapour-part_of_feed.true in
    sym (all_below-fails case.n (λ i. nat_le (vapour_part case c.args.v c.args.y.now i) (feed_part case i * 2 ^ 40)) c.loop-i.i c.loop-i-test.true
    (lt-leb _ _ more))

pub loop-i-preserved : goal.loop-i-preserved
loop-i-preserved c =
    let case = c.args.case.now in
    let less = rw (c.part_of_vapour.ensures.value, c.part_of_feed.ensures.value) at c.if-part_of_vapour-part_of_feed.false in
    all_below-more c.loop-i.i (λ i. nat_le (vapour_part case c.args.v c.args.y.now i) (feed_part case i * 2 ^ 40)) c.loop-i.invariant (le-leb _ _ less)

pub returns : goal.returns
returns c =
    let last : c.loop-i.i ≡ c.args.case.now.n = omega arith in
    sym (rw last at c.loop-i.invariant)
