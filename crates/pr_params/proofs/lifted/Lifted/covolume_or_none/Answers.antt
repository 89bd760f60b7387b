use Rattle.std.proofs.Common.{sym, ◌∙◌}
use Rattle.pr_params.specs.Entries.{covolume_entry}
use Rattle.pr_params.proofs.GreatestLift.{fits_at}
use Rattle.pr_params.proofs.Placed.{covolume_made}
use Rattle.pr_params.proofs.Slots.{live_yes, live_no}
use Rattle.pr_params.proofs.lifted.Lifted.covolume_or_none.Goals as goal

pub covolume-requires-clause-lifted : goal.covolume-requires-clause-lifted
covolume-requires-clause-lifted c =
    let s = c.args.self.now in
    rw (c.covolume_num-num.ensures.value, c.covolume_den.ensures.value, s.lifted)
    (fits_at s.case c.args.i s.range c.if-i-self.true)

pub returns-then-i-self : goal.returns-then-i-self
returns-then-i-self c =
    let s = c.args.self.now in
    covolume_made s.case c.args.i c.covolume_num-num.result c.covolume_den.result s.lift c.covolume.result.lo c.covolume.result.hi
    c.if-i-self.true s.lifted c.covolume_num-num.ensures.value c.covolume_den.ensures.value c.covolume.ensures.lo c.covolume.ensures.hi
    ∙ sym (live_yes s.case.n (covolume_entry s.case) c.args.i c.if-i-self.true)

pub returns-else-i-self : goal.returns-else-i-self
returns-else-i-self c = c.none.ensures ∙ sym (live_no c.args.self.now.case.n (covolume_entry c.args.self.now.case) c.args.i c.if-i-self.false)
