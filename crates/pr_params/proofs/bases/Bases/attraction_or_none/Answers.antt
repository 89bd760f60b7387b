use Rattle.std.proofs.Common.{ap, arith}
use Rattle.std.proofs.lemmas.Int.{ints}
use Rattle.log_laws.specs.Between.{Ends}
use Rattle.pr_params.proofs.EntryFaults.{attraction_below}
use Rattle.pr_params.proofs.EntrySizes.{covolume_high}
use Rattle.pr_params.proofs.bases.Bases.attraction_or_none.Goals as goal

pub interval-requires-clause-small : goal.interval-requires-clause-small
interval-requires-clause-small c =
    let s = c.args.self.now in
    let below = attraction_below s.case c.args.i c.args.j c.if-i-n.true c.if-j-n.true c.requires in
    let high = covolume_high s.case c.args.i s.range c.if-i-n.true in
    let hi = ap (λ (v : Ends). v.hi) c.attraction-lo.ensures.ends in
    omega (arith, ints, below, high, hi)
