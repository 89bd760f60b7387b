use Rattle.std.proofs.Common.{◌+◌, ◌*◌, ◌^◌, arith}
use Rattle.std.proofs.lemmas.Int.{ints}
use Rattle.log_laws.proofs.Exports.{floor-le-ceiling}
use Rattle.pr_params.proofs.Sizes.{quotient_high, ceiling_high}
use Rattle.pr_params.proofs.covolumes.covolume.Goals as goal

pub ratio_ends-lo-requires-clause-fits : goal.ratio_ends-lo-requires-clause-fits
ratio_ends-lo-requires-clause-fits c = let p = quotient_high c.args.num c.args.den c.args.lift c.requires.lifted in omega (arith, p)

pub interval-requires-clause-ordered : goal.interval-requires-clause-ordered
interval-requires-clause-ordered c =
    rw (c.ratio_ends-lo.ensures.lo, c.ratio_ends-lo.ensures.hi) (floor-le-ceiling (c.args.num * 2 ^ (56 + c.args.lift)) c.args.den c.requires.positive)

pub interval-requires-clause-small : goal.interval-requires-clause-small
interval-requires-clause-small c =
    let p = ceiling_high c.args.num c.args.den c.args.lift c.requires.positive c.requires.lifted in
    omega (arith, p, c.ratio_ends-lo.ensures.hi)

pub returns-clause-low : goal.returns-clause-low
returns-clause-low c = omega (arith, ints, c.ratio_ends-lo.ensures.lo, c.interval.ensures.lo)

pub returns-clause-high : goal.returns-clause-high
returns-clause-high c =
    let p = ceiling_high c.args.num c.args.den c.args.lift c.requires.positive c.requires.lifted in
    omega (arith, ints, p, c.ratio_ends-lo.ensures.hi, c.interval.ensures.hi)
