use Rattle.std.proofs.Common.{◌≡◌, ◌≤◌, ◌^◌, ◌<◌, arith}
use Rattle.std.proofs.lemmas.Int.{ints}
use Rattle.log_laws.specs.Squaring.{log_down, log_up}
use Rattle.log_enclose.proofs.Exports.{log_down_power_low, log_down_power_high, log_up_power_low, log_up_power_high}
use Rattle.pr_params.proofs.packings.log_ends.Goals as goal

pub returns-clause-lo_small : goal.returns-clause-lo_small
returns-clause-lo_small c =
    let y = c.args.y in
    let some : 1 ≤ y = omega (arith, c.if-y-eq0.false) in
    let small : y < 2 ^ 41 = omega (arith, c.requires) in
    let e : c.of.result.lo ≡ log_down y 40 = rw c.interval.ensures.lo at c.of.ensures.lo in
    let p = log_down_power_low y 40 0 some (omega (arith, small)) some in
    let q = log_down_power_high y 40 41 some (omega (arith, small)) small in
    rw e (omega (arith, ints, p, q))

pub returns-clause-hi_small : goal.returns-clause-hi_small
returns-clause-hi_small c =
    let y = c.args.y in
    let some : 1 ≤ y = omega (arith, c.if-y-eq0.false) in
    let small : y < 2 ^ 41 = omega (arith, c.requires) in
    let e : c.of.result.hi ≡ log_up y 40 = rw c.interval.ensures.hi at c.of.ensures.hi in
    let p = log_up_power_low y 40 0 some (omega (arith, small)) some in
    let q = log_up_power_high y 40 41 some (omega (arith, small)) small in
    rw e (omega (arith, ints, p, q))
