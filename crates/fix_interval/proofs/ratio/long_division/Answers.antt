use Rattle.std.proofs.Common.{arith, ◌≡◌, ◌*◌, ◌^◌}
use Rattle.fix_interval.proofs.LongDivision.{quotient_so_far, quotient_at_end, rest_at_end, quotient_step}
use Rattle.fix_interval.proofs.ratio.long_division.Goals as goal
use Rattle.fix_interval.proofs.ratio.long_division.Goals.{then-rest-den, else-rest-den}

pub overflow_mul-quotient : goal.overflow_mul-quotient
overflow_mul-quotient c = omega (arith, quotient_so_far c.loop-i.quotient c.args.den c.loop-i.rest c.args.num c.loop-i.i c.args.bits (omega arith) c.loop-i.invariant.divides (omega arith))

pub overflow_add-quotient : goal.overflow_add-quotient
overflow_add-quotient c = omega (arith, quotient_so_far c.loop-i.quotient c.args.den c.loop-i.rest c.args.num c.loop-i.i c.args.bits (omega arith) c.loop-i.invariant.divides (omega arith))

pub loop-i-preserved : goal.loop-i-preserved
loop-i-preserved c =
    let step = quotient_step c.loop-i.quotient c.args.den c.loop-i.rest c.args.num c.loop-i.i c.loop-i.invariant.divides in
    elim c.if-rest-den.branch [
      | then-rest-den w ↦ record { divides = rw (w.quotient-is, w.rest-is) (omega arith); below = omega arith }
      | else-rest-den w ↦ record { divides = rw (w.quotient-is, w.rest-is) step; below = omega arith }
    ]

pub returns-clause-quotient : goal.returns-clause-quotient
returns-clause-quotient c =
    let e : c.loop-i.i ≡ c.args.bits = omega arith in
    quotient_at_end c.loop-i.quotient c.args.den c.loop-i.rest (c.args.num * 2 ^ c.args.bits) c.loop-i.invariant.below (rw (← e) c.loop-i.invariant.divides)

pub returns-clause-rest : goal.returns-clause-rest
returns-clause-rest c =
    let e : c.loop-i.i ≡ c.args.bits = omega arith in
    rest_at_end c.loop-i.quotient c.args.den c.loop-i.rest (c.args.num * 2 ^ c.args.bits) c.loop-i.invariant.below (rw (← e) c.loop-i.invariant.divides)
