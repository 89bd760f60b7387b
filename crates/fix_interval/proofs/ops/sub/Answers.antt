use Rattle.std.proofs.Common.{arith}
use Rattle.std.proofs.lemmas.Int.{ints}
use Rattle.log_laws.specs.Interval.{ends_of}
use Rattle.fix_interval.proofs.Between.{IsBetween-difference}
use Rattle.fix_interval.proofs.ops.sub.Goals as goal

pub invariant_of-result : goal.invariant_of-result
invariant_of-result c = record {
  ordered = omega (arith, ints);
  lo_small = omega (arith, ints);
  hi_small = omega (arith, ints);
}

pub returns-clause-lo : goal.returns-clause-lo
returns-clause-lo c = omega (arith, ints)

pub returns-clause-hi : goal.returns-clause-hi
returns-clause-hi c = omega (arith, ints)

pub returns-clause-holds : goal.returns-clause-holds
returns-clause-holds c f g s h k =
    rw (returns-clause-lo c, returns-clause-hi c) (IsBetween-difference (ends_of c.args.a) (ends_of c.args.b) s f g h k)
