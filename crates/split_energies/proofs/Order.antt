-- Steps from one order to another.
use Rattle.std.proofs.Common.{◌≡◌, ℕ, ◌+◌, ◌<◌, ◌⊎◌, ℤ, ◌≤ℤ◌, ◌<ℤ◌, arith}
use Rattle.std.proofs.lemmas.Int.{ints}

pub last_or_before : (j k : ℕ) → j < k + 1 → (j < k) ⊎ (j ≡ k)
last_or_before j k h = grind (arith, h)

pub no_less : (a b : ℤ) → a ≡ b → a ≤ℤ b
no_less a b h = omega (arith, ints, h)

pub at_most : (a b : ℤ) → a <ℤ b → a ≤ℤ b
at_most a b h = omega (arith, ints, h)

pub through : (a b c : ℤ) → a ≤ℤ b → b ≤ℤ c → a ≤ℤ c
through a b c h k = omega (arith, ints, h, k)

pub less_through : (a b c : ℤ) → a <ℤ b → b ≤ℤ c → a <ℤ c
less_through a b c h k = omega (arith, ints, h, k)
