use Rattle.std.proofs.Common.{arith, inl, inr}
use Rattle.std.specs.Int.{int_min, int_max}
use Rattle.std.proofs.lemmas.Int.{ints, clamps}
use Rattle.log_laws.specs.Interval.{ends, ends_of}
use Rattle.fix_interval.proofs.Between.{IsBetween-wider}
use Rattle.fix_interval.proofs.ops.hull.Goals as goal

pub invariant_of-result : goal.invariant_of-result
invariant_of-result c = record {
  ordered = omega (arith, ints, clamps);
  lo_small = omega (arith, ints, clamps);
  hi_small = omega (arith, ints, clamps);
}

pub returns-clause-lo : goal.returns-clause-lo
returns-clause-lo c = omega (arith, ints, clamps)

pub returns-clause-hi : goal.returns-clause-hi
returns-clause-hi c = omega (arith, ints, clamps)

pub returns-clause-holds : goal.returns-clause-holds
returns-clause-holds c f s h =
    let both = ends (int_min c.args.a.lo c.args.b.lo) (int_max c.args.a.hi c.args.b.hi) in
    rw (returns-clause-lo c, returns-clause-hi c)
    (elim h [
      | inl w ↦ IsBetween-wider (ends_of c.args.a) both s f (omega (arith, ints, clamps)) (omega (arith, ints, clamps)) w
      | inr w ↦ IsBetween-wider (ends_of c.args.b) both s f (omega (arith, ints, clamps)) (omega (arith, ints, clamps)) w
    ])
