use Rattle.std.proofs.Common.{arith, ◌^◌}
use Rattle.std.proofs.lemmas.Nat.{pow_pos}
use Rattle.log_laws.proofs.Exports.{back}
use Rattle.log_laws.specs.Interval.{ends_of}
use Rattle.fix_interval.proofs.Between.{IsBetween-product_of}
use Rattle.fix_interval.proofs.products.mul_ends.Goals as goal

pub returns-clause-lo : goal.returns-clause-lo
returns-clause-lo c =
    let e = c.product_extremes-least.ensures in
    rw (back c.product_extremes-least.result.0 (omega (arith, e.least_small)), e.least) at c.outward.ensures.lo

pub returns-clause-hi : goal.returns-clause-hi
returns-clause-hi c =
    let e = c.product_extremes-least.ensures in
    rw (back c.product_extremes-least.result.1 (omega (arith, e.greatest_small)), e.greatest) at c.outward.ensures.hi

pub returns-clause-holds : goal.returns-clause-holds
returns-clause-holds c f g s t r e h k =
    rw (returns-clause-lo c, returns-clause-hi c)
    (IsBetween-product_of (ends_of c.args.a) (ends_of c.args.b) (2 ^ c.args.shift) f g s t r (pow_pos c.args.shift) e h k)
