use Rattle.std.proofs.Common.{◌≤ℤ◌, pos, arith}
use Rattle.std.proofs.lemmas.Int.{ints}
use Rattle.pr_params.proofs.naturals.natural_ends.Goals as goal
use Rattle.log_laws.proofs.Exports.{natural_fits, natural_value}

pub overflow_cast-result : goal.overflow_cast-result
overflow_cast-result c = natural_fits c.args.v.lo c.requires (omega (arith, c.args.v.lo_small))

pub overflow_cast-result-2 : goal.overflow_cast-result-2
overflow_cast-result-2 c =
    let above : pos 0 ≤ℤ c.args.v.hi = omega (arith, ints, c.requires, c.args.v.ordered) in
    natural_fits c.args.v.hi above (omega (arith, c.args.v.hi_small))

pub returns-clause-ends : goal.returns-clause-ends
returns-clause-ends c =
    let above : pos 0 ≤ℤ c.args.v.hi = omega (arith, ints, c.requires, c.args.v.ordered) in
    let lo = natural_value c.args.v.lo c.requires (omega (arith, c.args.v.lo_small)) in
    let hi = natural_value c.args.v.hi above (omega (arith, c.args.v.hi_small)) in
    rw (lo, hi)

pub returns-clause-ordered : goal.returns-clause-ordered
returns-clause-ordered c =
    let above : pos 0 ≤ℤ c.args.v.hi = omega (arith, ints, c.requires, c.args.v.ordered) in
    let lo = natural_value c.args.v.lo c.requires (omega (arith, c.args.v.lo_small)) in
    let hi = natural_value c.args.v.hi above (omega (arith, c.args.v.hi_small)) in
    omega (arith, ints, lo, hi, c.args.v.ordered)

pub returns-clause-small : goal.returns-clause-small
returns-clause-small c =
    let above : pos 0 ≤ℤ c.args.v.hi = omega (arith, ints, c.requires, c.args.v.ordered) in
    let hi = natural_value c.args.v.hi above (omega (arith, c.args.v.hi_small)) in
    omega (arith, ints, hi, above, c.args.v.hi_small)
