use Rattle.std.proofs.Common.{arith, ◌∙◌, ◌^◌, ap, pos, neg_ℤ, ◌*ℤ◌, unsigned_abs, sym}
use Rattle.std.proofs.lemmas.Int.{ints}
use Rattle.log_laws.proofs.Exports.{back, mul-le_ℤ, neg-mul, opposite_read}
use Rattle.log_laws.specs.Whole.{floor_div, ceil_div}
use Rattle.log_laws.specs.Interval.{ends_of}
use Rattle.fix_interval.proofs.Between.{IsBetween-quotient_of}
use Rattle.fix_interval.proofs.Cancel.{floor_over-le-ceil_over}
use Rattle.fix_interval.proofs.Division.{max-neg}
use Rattle.fix_interval.proofs.Wrapped.{lesser-le-greater, opposite_of}
use Rattle.fix_interval.proofs.quotients.div_ends.Goals as goal

pub returns-clause-lo : goal.returns-clause-lo
returns-clause-lo c =
    rw (back c.least.result (omega (arith, c.least.ensures.small)))
    (rw (back c.args.a.lo (omega (arith, c.args.a.lo_small))) at c.least.ensures.value)

pub returns-clause-hi : goal.returns-clause-hi
returns-clause-hi c =
    let a = c.args.a in
    let b = c.args.b in
    let k = 2 ^ c.args.shift in
    let v = rw (opposite_read a.hi (omega (arith, a.hi_small)), neg-mul a.hi (pos k)) at c.least-2.ensures.value in
    opposite_of c.least-2.result c.least-2.ensures.small
    ∙ ap neg_ℤ v
    ∙ sym (max-neg (floor_div (neg_ℤ (a.hi *ℤ pos k)) b.lo) (floor_div (neg_ℤ (a.hi *ℤ pos k)) b.hi))

pub returns-clause-ordered : goal.returns-clause-ordered
returns-clause-ordered c =
    let a = c.args.a in
    let b = c.args.b in
    let k = 2 ^ c.args.shift in
    let order = floor_over-le-ceil_over (a.lo *ℤ pos k) (a.hi *ℤ pos k) (unsigned_abs b.lo) (omega (arith, ints)) (mul-le_ℤ a.lo a.hi k a.ordered) in
    rw (returns-clause-lo c, returns-clause-hi c)
    (lesser-le-greater (floor_div (a.lo *ℤ pos k) b.lo) (floor_div (a.lo *ℤ pos k) b.hi) (ceil_div (a.hi *ℤ pos k) b.lo) (ceil_div (a.hi *ℤ pos k) b.hi) order)

pub returns-clause-holds : goal.returns-clause-holds
returns-clause-holds c f g s t r e h k =
    rw (returns-clause-lo c, returns-clause-hi c)
    (IsBetween-quotient_of (ends_of c.args.a) (ends_of c.args.b) (2 ^ c.args.shift) f g s t r c.requires.positive c.args.b.ordered e h k)
