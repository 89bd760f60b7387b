use Rattle.std.proofs.Common.{◌+◌, ◌*◌, ◌^◌, arith}
use Rattle.std.proofs.lemmas.Int.{ints}
use Rattle.log_laws.proofs.Exports.{ceiling_at_most}
use Rattle.pr_params.proofs.Sizes.{quotients_ordered}
use Rattle.pr_params.proofs.attractions.bare_attraction.Goals as goal

pub interval-requires-clause-ordered : goal.interval-requires-clause-ordered
interval-requires-clause-ordered c =
    rw (c.ratio_floor-lo.ensures, c.ratio_ends-hi.ensures.hi)
    (quotients_ordered (c.args.num * 2 ^ (79 + c.args.lift)) c.args.den_lo c.args.den_hi c.requires.positive c.requires.ordered)

pub returns-clause-high : goal.returns-clause-high
returns-clause-high c =
    let p = ceiling_at_most (c.args.num * 2 ^ (79 + c.args.lift)) c.args.den_lo (2 ^ 61) c.requires.positive c.requires.fits in
    omega (arith, ints, p, c.ratio_ends-hi.ensures.hi, c.interval.ensures.hi)
