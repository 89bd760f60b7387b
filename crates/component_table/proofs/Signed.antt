-- Signed numbers of 32 bits, as they are kept.
use Rattle.std.proofs.Common.{◌≡◌, ◌≤◌, ℤ, [], ◌∷◌, arith, refl, to_z, of_z, w32}
use Rattle.std.specs.Prelude.{unsigned_abs}
use Rattle.std.proofs.lemmas.Int.{to_z-of_z, fits_signed_from_abs}

pub written-back : (z : ℤ) → unsigned_abs z ≤ 10000000 → to_z w32 (of_z w32 z) ≡ z
written-back z small = to_z-of_z w32 z (fits_signed_from_abs w32 z (omega arith))

pub four-back : (a b c d : ℤ) → unsigned_abs a ≤ 10000000 → unsigned_abs b ≤ 10000000 → unsigned_abs c ≤ 10000000 → unsigned_abs d ≤ 10000000
    → to_z w32 (of_z w32 a) ∷ to_z w32 (of_z w32 b) ∷ to_z w32 (of_z w32 c) ∷ to_z w32 (of_z w32 d) ∷ [] ≡ a ∷ b ∷ c ∷ d ∷ []
four-back a b c d small_a small_b small_c small_d =
    rw (written-back a small_a, written-back b small_b, written-back c small_c, written-back d small_d) refl
