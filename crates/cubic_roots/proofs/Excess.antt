-- The excess of pressure at known middles: its sign by whole numbers, and at the ends of the range.
use Rattle.std.proofs.Common.{◌≡◌, ℕ, ◌+◌, ◌-◌, ◌*◌, ◌/◌, ◌^◌, ◌<◌, ◌≤◌, true, false, nat_lt, pos, ◌-ℤ◌, arith}
use Rattle.std.specs.Prelude.{int_lt}
use Rattle.std.proofs.lemmas.Int.{ints}
use Rattle.cubic_roots.specs.declared.middles.Middles.{Middles}
use Rattle.cubic_roots.specs.Pressures.{excess_of}
use Rattle.cubic_roots.specs.Middles.{is_above}

-- the sign of a difference of three numbers
sign_of : (b pull push : ℕ) → nat_lt (b + pull) push ≡ int_lt (pos 0) (pos push -ℤ pos pull -ℤ pos b)
sign_of b pull push = grind (arith, ints)

pub above_by_numbers : (m : Middles) (y pull push : ℕ) → pull ≡ m.ratio * (y * y) / (2 ^ 80 + 2 * y * 2 ^ 40 - y * y) → push ≡ y * 2 ^ 40 / (2 ^ 40 - y) →
    nat_lt (m.covolume + pull) push ≡ is_above m y
unfolding excess_of
above_by_numbers m y pull push e f = rw (e, f) (sign_of m.covolume (m.ratio * (y * y) / (2 ^ 80 + 2 * y * 2 ^ 40 - y * y)) (y * 2 ^ 40 / (2 ^ 40 - y)))

not_above : (b pull push : ℕ) → push ≤ b → int_lt (pos 0) (pos push -ℤ pos pull -ℤ pos b) ≡ false
not_above b pull push h = grind (arith, ints)

is_so : (b pull push : ℕ) → b + pull < push → int_lt (pos 0) (pos push -ℤ pos pull -ℤ pos b) ≡ true
is_so b pull push h = grind (arith, ints)

-- almost empty the pressure is below every case's, and almost full above
pub empty_below : (m : Middles) → is_above m 1 ≡ false
unfolding excess_of
empty_below m = not_above m.covolume (m.ratio * 1 / (2 ^ 80 + 2 * 1 * 2 ^ 40 - 1)) 1 m.some

pub full_above : (m : Middles) → is_above m (2 ^ 40 - 1) ≡ true
unfolding excess_of
full_above m =
    is_so m.covolume (m.ratio * ((2 ^ 40 - 1) * (2 ^ 40 - 1)) / (2 ^ 80 + 2 * (2 ^ 40 - 1) * 2 ^ 40 - (2 ^ 40 - 1) * (2 ^ 40 - 1))) ((2 ^ 40 - 1) * 2 ^ 40 / 1)
    (omega (arith, m.small, m.weak))
