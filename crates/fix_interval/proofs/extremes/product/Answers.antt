use Rattle.std.proofs.Common.{arith, ◌*ℤ◌}
use Rattle.log_laws.proofs.Exports.{back}
use Rattle.fix_interval.proofs.Wrapped.{narrowed, product_small}
use Rattle.fix_interval.proofs.extremes.product.Goals as goal

pub returns-clause-value : goal.returns-clause-value
returns-clause-value c =
    rw (narrowed c.args.x c.requires.x, narrowed c.args.y c.requires.y)
    (back (c.args.x *ℤ c.args.y) (omega (arith, product_small c.args.x c.args.y c.requires.x c.requires.y)))

pub returns-clause-small : goal.returns-clause-small
returns-clause-small c = rw (returns-clause-value c) (product_small c.args.x c.args.y c.requires.x c.requires.y)
