use Rattle.std.proofs.Common.{◌≡◌, ◌<◌, ◌^◌, unsigned_abs, arith}
use Rattle.std.proofs.lemmas.Nat.{pow_pos}
use Rattle.log_laws.specs.Whole.{floor_over, ceil_over}
use Rattle.log_laws.proofs.Exports.{back}
use Rattle.fix_interval.specs.Extremes.{least_square, greatest_square}
use Rattle.log_laws.specs.Interval.{ends_of}
use Rattle.fix_interval.proofs.Between.{IsBetween-square}
use Rattle.fix_interval.proofs.Nearest.{floor_square_zero}
use Rattle.fix_interval.proofs.products.square_shift.Goals as goal

pub invariant_of-result : goal.invariant_of-result
invariant_of-result c =
    let e = c.square_extremes-least.ensures in
    let k = 2 ^ c.args.shift in
    let lo_is : c.outward-lo.result.0 ≡ floor_over (least_square c.args.a) k =
    rw (back c.square_extremes-least.result.0 (omega (arith, e.least_small)), e.least) at c.outward-lo.ensures.lo in
    let hi_is : c.outward-lo.result.1 ≡ ceil_over (greatest_square c.args.a) k =
    rw (back c.square_extremes-least.result.1 (omega (arith, e.greatest_small)), e.greatest) at c.outward-lo.ensures.hi in
    let lo_small : unsigned_abs c.outward-lo.result.0 < 2 ^ 62 = rw lo_is c.requires.lo_fits in
    let hi_small : unsigned_abs c.outward-lo.result.1 < 2 ^ 62 = rw hi_is c.requires.hi_fits in
    record {
      ordered = rw (back c.outward-lo.result.0 (omega (arith, lo_small)), back c.outward-lo.result.1 (omega (arith, hi_small))) c.outward-lo.ensures.ordered;
      lo_small = rw (back c.outward-lo.result.0 (omega (arith, lo_small))) lo_small;
      hi_small = rw (back c.outward-lo.result.1 (omega (arith, hi_small))) hi_small;
    }

pub returns-clause-lo : goal.returns-clause-lo
returns-clause-lo c =
    let e = c.square_extremes-least.ensures in
    let k = 2 ^ c.args.shift in
    let found : c.outward-lo.result.0 ≡ floor_over (least_square c.args.a) k =
    rw (back c.square_extremes-least.result.0 (omega (arith, e.least_small)), e.least) at c.outward-lo.ensures.lo in
    rw found (back (floor_over (least_square c.args.a) k) (omega (arith, c.requires.lo_fits)))

pub returns-clause-hi : goal.returns-clause-hi
returns-clause-hi c =
    let e = c.square_extremes-least.ensures in
    let k = 2 ^ c.args.shift in
    let found : c.outward-lo.result.1 ≡ ceil_over (greatest_square c.args.a) k =
    rw (back c.square_extremes-least.result.1 (omega (arith, e.greatest_small)), e.greatest) at c.outward-lo.ensures.hi in
    rw found (back (ceil_over (greatest_square c.args.a) k) (omega (arith, c.requires.hi_fits)))

pub returns-clause-zero : goal.returns-clause-zero
returns-clause-zero c h k = rw (returns-clause-lo c) (floor_square_zero c.args.a.lo c.args.a.hi (2 ^ c.args.shift) h k)

pub returns-clause-holds : goal.returns-clause-holds
returns-clause-holds c f s r e h =
    rw (returns-clause-lo c, returns-clause-hi c)
    (IsBetween-square (ends_of c.args.a) (2 ^ c.args.shift) f s r (pow_pos c.args.shift) e h)
