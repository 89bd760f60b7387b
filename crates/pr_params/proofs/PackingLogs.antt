-- The logarithms at a packing fraction.
use Rattle.std.proofs.Common.{ℕ, ◌≡◌, ◌≢◌, ◌≤◌, ◌<◌, ◌^◌, ◌==◌, false, arith, ℤ, unsigned_abs, refl}
use Rattle.std.proofs.lemmas.Int.{ints}
use Rattle.log_laws.specs.Squaring.{IsSmall}
use Rattle.pr_params.specs.Packings.{log_or_none}

-- the test of 0 fails elsewhere
pub not_none : (y : ℕ) → y ≢ 0 → (y == 0) ≡ false
not_none y h = grind arith

-- a logarithm is small
pub log_size : (z : ℤ) → IsSmall z → unsigned_abs z < 2 ^ 47
log_size z h = omega (arith, ints, h.0, h.1)

-- above 0 there is a logarithm
pub log_some : (log : ℕ → ℕ → ℤ) (y : ℕ) → 1 ≤ y → log_or_none log y ≡ log y 40
log_some log y h = rw (not_none y (omega arith)) refl
