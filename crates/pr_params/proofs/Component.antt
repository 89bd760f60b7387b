-- What tests of order say, and the ranges of a component.
use Rattle.std.proofs.Common.{ℕ, ◌≤◌, nat_le, IsTrue, ℤ, pos, neg_ℤ, ◌≤ℤ◌, arith}
use Rattle.std.specs.Prelude.{int_le}
use Rattle.std.proofs.lemmas.Int.{ints}

-- what tests of order say
pub at_most : (a b : ℕ) → IsTrue (nat_le a b) → a ≤ b
at_most a b h = grind (arith, h)

pub int_at_most : (a b : ℤ) → IsTrue (int_le a b) → a ≤ℤ b
int_at_most a b h = grind (arith, ints, h)

-- the ranges of a component
pub record IsComponent (tc pc : ℕ) (w : ℤ) : Type 0 where
  pub tc_low : 5000 ≤ tc
  pub tc_high : tc ≤ 1500000
  pub pc_low : 100000 ≤ pc
  pub pc_high : pc ≤ 50000000
  pub w_low : neg_ℤ (pos 5000) ≤ℤ w
  pub w_high : w ≤ℤ pos 15000
