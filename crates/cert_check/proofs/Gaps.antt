-- The gap as 128 bits keep it.
use Rattle.std.proofs.Common.{◌≡◌, ◌^◌, ◌≤◌, ◌<◌, ℤ, ◌-ℤ◌, to_z, of_z, unsigned_abs, arith}
use Rattle.std.specs.Int.{w128}
use Rattle.std.proofs.lemmas.Int.{ints}
use Rattle.log_laws.proofs.Exports.{back}

-- read as they are computed
abbrev read : ℤ → ℤ
read z = to_z w128 (of_z w128 z)

pub gap_small : (u at low : ℤ) → unsigned_abs u < 2 ^ 80 → unsigned_abs at ≤ 2 ^ 114 → unsigned_abs low < 2 ^ 80 → unsigned_abs ((u -ℤ at) -ℤ low) ≤ 2 ^ 116
gap_small u at low h k l = omega (arith, ints, h, k, l)

pub gap_read : (u at low : ℤ) → unsigned_abs u < 2 ^ 80 → unsigned_abs at ≤ 2 ^ 114 → unsigned_abs low < 2 ^ 80 → read (read (read u -ℤ read at) -ℤ read low) ≡ (u -ℤ at) -ℤ low
gap_read u at low h k l =
    rw (back u (omega (arith, h)), back at (omega (arith, k)), back low (omega (arith, l)))
    (rw (back (u -ℤ at) (omega (arith, ints, h, k))) (back ((u -ℤ at) -ℤ low) (omega (arith, ints, h, k, l))))
