-- Numbers of 128 bits that went to bits and are read again.
use Rattle.std.proofs.Common.{◌≡◌, ◌<◌, ◌^◌, ℤ, unsigned_abs, arith, to_z, of_z}
use Rattle.std.specs.Int.{w128}
use Rattle.std.proofs.lemmas.Int.{to_z-of_z, fits_signed_from_abs}

pub back : (z : ℤ) → unsigned_abs z < 2 ^ 127 → to_z w128 (of_z w128 z) ≡ z
back z h = to_z-of_z w128 z (fits_signed_from_abs w128 z (omega arith))
