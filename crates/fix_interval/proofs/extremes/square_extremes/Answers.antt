use Rattle.std.proofs.Common.{rules}
use Rattle.fix_interval.proofs.Nearest.{least-le-greatest_square}
use Rattle.fix_interval.proofs.extremes.square_extremes.Goals as goal

pub returns-clause-least : goal.returns-clause-least
returns-clause-least c = search rules

pub returns-clause-greatest : goal.returns-clause-greatest
returns-clause-greatest c = search rules

pub returns-clause-ordered : goal.returns-clause-ordered
returns-clause-ordered c =
    rw (returns-clause-least c, returns-clause-greatest c) (least-le-greatest_square c.args.a.lo c.args.a.hi)
