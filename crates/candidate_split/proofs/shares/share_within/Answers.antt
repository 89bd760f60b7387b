use Rattle.std.proofs.Common.{ℕ, ◌≤◌, ◌*◌, ◌^◌, arith, below_more}
use Rattle.std.specs.Prelude.{nat_le}
use Rattle.std.proofs.lemmas.Bool.{le-leb}
use Rattle.log_laws.proofs.Exports.{all_below-from}
use Rattle.split_energies.specs.Feeds.{feed_part}
use Rattle.candidate_split.specs.TwoPhases.{vapour_part}
use Rattle.candidate_split.proofs.FeedParts.{lesser_share_fits}
use Rattle.candidate_split.proofs.shares.share_within.Goals as goal

pub loop-i-preserved : goal.loop-i-preserved
loop-i-preserved c =
    let case = c.args.case.now in
    let before = c.loop-i.invariant in
    let share = c.share_of-share in
    record {
      some = share.ensures.some;
      most = omega (arith, share.ensures.most, before.most);
      fits = below_more (λ (k : ℕ). vapour_part case share.result c.args.y.now k ≤ feed_part case k * 2 ^ 40) c.loop-i.i
          (λ k h. lesser_share_fits case share.result c.loop-i.share k c.args.y.now share.ensures.most (before.fits k h))
          share.ensures.fits;
    }

pub returns-clause-fits : goal.returns-clause-fits
returns-clause-fits c =
    let case = c.args.case.now in
    all_below-from case.n (λ i. nat_le (vapour_part case c.loop-i.share c.args.y.now i) (feed_part case i * 2 ^ 40))
    (λ i h. le-leb _ _ (c.loop-i.invariant.fits i (omega (arith, h, c.loop-i-test.false))))
