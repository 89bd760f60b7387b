use Rattle.std.proofs.Common.{arith}
use Rattle.std.proofs.lemmas.Nat.Gcd.{IsGcd-from_mod, IsGcd-from_zero}
use Rattle.log_laws.proofs.reduce.greatest_divisor.Goals as goal

pub loop-right-preserved : goal.loop-right-preserved
loop-right-preserved c = record {
  shared = λ g h. c.loop-right.invariant.shared g (IsGcd-from_mod c.loop-right.left c.loop-right.right g h);
  some = omega arith;
}

pub returns-clause-gcd : goal.returns-clause-gcd
returns-clause-gcd c = c.loop-right.invariant.shared c.loop-right.left (IsGcd-from_zero c.loop-right.left c.loop-right.right (omega arith))
