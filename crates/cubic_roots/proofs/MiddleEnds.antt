-- The middle of two ends as it is read.
use Rattle.std.proofs.Common.{◌≡◌, ℕ, ◌+◌, ◌/◌, ◌^◌, ℤ, pos, negsuc, ◌+ℤ◌, ◌≤ℤ◌, unsigned_abs, to_z, of_z, refl, arith}
use Rattle.std.specs.Int.{w128}
use Rattle.std.proofs.lemmas.Int.{ints}
use Rattle.log_laws.specs.Whole.{floor_div}
use Rattle.log_laws.proofs.Exports.{back}

pub middle_read : (lo hi : ℤ) (d q : ℕ) → pos 0 ≤ℤ lo → lo ≤ℤ pos (2 ^ 61) → pos 0 ≤ℤ hi → hi ≤ℤ pos (2 ^ 61) →
    q ≡ (unsigned_abs (to_z w128 (of_z w128 lo)) + unsigned_abs (to_z w128 (of_z w128 hi))) / d → pos q ≡ floor_div (lo +ℤ hi) (pos d)
middle_read (pos a) (pos b) d q _ h _ k e = rw (e, back (pos a) (omega (arith, ints, h)), back (pos b) (omega (arith, ints, k))) refl
middle_read (negsuc a) hi d q l h m k e = absurd (omega (arith, ints, l))
middle_read (pos a) (negsuc b) d q l h m k e = absurd (omega (arith, ints, m))
