use Rattle.cert_check.proofs.Gaps.{gap_read, gap_small}
use Rattle.std.proofs.Common.{◌∙◌, refl}
use Rattle.cert_check.proofs.testing.gap_of.Goals as goal

pub returns-clause-value : goal.returns-clause-value
returns-clause-value c =
    let h = c.args.head.now in
    gap_read h.u c.plane_at_feed.result h.low c.requires.u c.plane_at_feed.ensures.small c.requires.low ∙ rw c.plane_at_feed.ensures.value refl

pub returns-clause-small : goal.returns-clause-small
returns-clause-small c =
    let h = c.args.head.now in
    rw (gap_read h.u c.plane_at_feed.result h.low c.requires.u c.plane_at_feed.ensures.small c.requires.low) (gap_small h.u c.plane_at_feed.result h.low c.requires.u c.plane_at_feed.ensures.small c.requires.low)
