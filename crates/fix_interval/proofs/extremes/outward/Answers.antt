use Rattle.std.proofs.Common.{rules, ◌^◌}
use Rattle.std.proofs.lemmas.Nat.{pow_pos}
use Rattle.fix_interval.proofs.Cancel.{floor_over-le-ceil_over}
use Rattle.fix_interval.proofs.extremes.outward.Goals as goal

pub returns-clause-lo : goal.returns-clause-lo
returns-clause-lo c = search rules

pub returns-clause-hi : goal.returns-clause-hi
returns-clause-hi c = search rules

pub returns-clause-ordered : goal.returns-clause-ordered
returns-clause-ordered c =
    rw (returns-clause-lo c, returns-clause-hi c)
    (floor_over-le-ceil_over c.args.least c.args.greatest (2 ^ c.args.shift) (pow_pos c.args.shift) c.requires.ordered)
