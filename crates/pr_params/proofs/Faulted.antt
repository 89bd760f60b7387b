-- What tests of order give.
use Rattle.std.proofs.Common.{◌≡◌, ℕ, ◌<◌, ◌≤◌, true, false, nat_le, nat_lt, ℤ, ◌≤ℤ◌, ◌<ℤ◌, arith}
use Rattle.std.specs.Prelude.{int_lt}
use Rattle.std.proofs.lemmas.Int.{ints}

pub le_yes : (a b : ℕ) → a ≤ b → nat_le a b ≡ true
le_yes a b h = grind (arith, h)

pub le_no : (a b : ℕ) → b < a → nat_le a b ≡ false
le_no a b h = grind (arith, h)

pub lt_yes : (a b : ℕ) → a < b → nat_lt a b ≡ true
lt_yes a b h = grind (arith, h)

pub lt_no : (a b : ℕ) → b ≤ a → nat_lt a b ≡ false
lt_no a b h = grind (arith, h)

pub below_yes : (a b : ℤ) → a <ℤ b → int_lt a b ≡ true
below_yes a b h = grind (arith, ints, h)

pub below_no : (a b : ℤ) → b ≤ℤ a → int_lt a b ≡ false
below_no a b h = grind (arith, ints, h)
