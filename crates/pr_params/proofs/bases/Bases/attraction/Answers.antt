use Rattle.pr_params.proofs.Placed.{attraction_made, attraction_ordered}
use Rattle.pr_params.proofs.bases.Bases.attraction.Goals as goal

pub returns-clause-ends : goal.returns-clause-ends
returns-clause-ends c =
    attraction_made c.args.self.now.case c.args.i c.args.j c.bare-bare_lo.result.0 c.bare-bare_lo.result.1 c.alpha-own_lo.result.0 c.alpha-own_lo.result.1
    c.alpha-other_lo.result.0 c.alpha-other_lo.result.1 c.attraction_floor.result c.attraction_ceil.result c.bare-bare_lo.ensures.ends c.alpha-own_lo.ensures.ends
    c.alpha-other_lo.ensures.ends c.attraction_floor.ensures.value c.attraction_ceil.ensures.value

pub returns-clause-ordered : goal.returns-clause-ordered
returns-clause-ordered c =
    rw (c.attraction_floor.ensures.value, c.attraction_ceil.ensures.value)
    (attraction_ordered c.bare-bare_lo.result.0 c.bare-bare_lo.result.1 c.alpha-own_lo.result.0 c.alpha-own_lo.result.1
    c.alpha-other_lo.result.0 c.alpha-other_lo.result.1 c.bare-bare_lo.ensures.ordered c.alpha-own_lo.ensures.ordered c.alpha-other_lo.ensures.ordered)
