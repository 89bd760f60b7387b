use Rattle.std.proofs.Common.{ℕ, ◌+◌, ◌<◌}
use Rattle.std.specs.Int.{IsGcd}
use Rattle.log_laws.proofs.reduce.greatest_divisor.Given as goal

-- what divides both now divides both at the start, and one of them is left
pub record Shares (a b left right : ℕ) : Type 0 where
  pub shared : (g : ℕ) → IsGcd left right g → IsGcd a b g
  pub some : 0 < left + right

abbrev pub invariant-loop-right : goal.invariant-loop-right
invariant-loop-right l = Shares l.fn.a l.fn.b l.left l.right

abbrev pub decreases-loop-right : goal.decreases-loop-right
decreases-loop-right l = l.right
