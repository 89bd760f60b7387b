-- The definitions by squaring and by digits, at single numbers.
use Rattle.std.specs.Prelude.{ℕ, ◌≡◌, ◌-◌, ◌*◌, ◌^◌, pos, neg_ℤ, refl}
use Rattle.std.proofs.Common.{lit<, lit≤, arith}
use lib.Count.{count_leading_zeros}
use Rattle.log_laws.specs.Between.{Ends}
use Rattle.log_laws.specs.LogE.{log_e_ends}
use Rattle.log_laws.specs.Fraction.{whole}
use Rattle.log_laws.specs.LogSum.{LogSum, AtLeast, AtMost, times_log, ratio}
use Rattle.log_laws.specs.Roots.{root_ends, root_digits, with_digit}
use Rattle.log_laws.specs.Squaring.{down, up, log_down, log_up}
use Rattle.log_laws.proofs.Opposite.{at_least_powers_over, at_most_powers_over}

abbrev ends : ℕ → ℕ → Ends
ends lo hi = record { lo = pos lo; hi = pos hi }

pub root_of_two : root_ends 2 1 60 ≡ ends 1630477228166597776 1630477228166597777
unfolding root_digits with_digit
root_of_two = refl

-- the root of 9/4 is 1.5
pub exact_root : root_ends 9 4 10 ≡ ends 1536 1536
unfolding root_digits with_digit
exact_root = refl

pub log_of_e : log_e_ends ≡ ends 1586259924992 1586260020565
unfolding down up
log_of_e = refl

-- the logarithm of 3/2
pub three_halves_down : down 3458764513820540928 40 ≡ 643173071355
unfolding down
three_halves_down = refl

pub three_halves_up : up 3458764513820540928 40 ≡ 643173071356
unfolding up
three_halves_up = refl

-- the logarithm of 1
pub one_up : up (2 ^ 61) 40 ≡ 0
unfolding up
one_up = refl

-- the logarithm of the greatest mantissa
pub greatest_down : down (2 ^ 62 - 1) 40 ≡ 1099511627775
unfolding down
greatest_down = refl

pub greatest_up : up (2 ^ 62 - 1) 40 ≡ 1099511627776
unfolding up
greatest_up = refl

-- the logarithm of 1/4 is -2
pub quarter_down : log_down 1 2 ≡ neg_ℤ (pos (2 * 2 ^ 40))
unfolding log_down down count_leading_zeros
quarter_down = refl

pub quarter_up : log_up 1 2 ≡ neg_ℤ (pos (2 * 2 ^ 40))
unfolding log_up up count_leading_zeros
quarter_up = refl

-- 3/2 is at most the logarithm of 3, since 2^3 is at most 3^2, and 8/5 isn't
abbrev log_of_three : LogSum
log_of_three = times_log (whole (pos 1)) (ratio 3 1)

pub three_halves_at_least : AtLeast log_of_three (record { num = pos 3; den = 2 })
three_halves_at_least = (at_least_powers_over 1 3 1 2 (pos 3) (lit< tt) (lit< tt) (lit< tt)).1 (lit≤ tt)

pub eight_fifths_not : AtLeast log_of_three (record { num = pos 8; den = 5 }) → ⊥
eight_fifths_not h = let l = (at_least_powers_over 1 3 1 5 (pos 8) (lit< tt) (lit< tt) (lit< tt)).0 h in omega (arith, l)

-- and 8/5 is at least it
pub eight_fifths_at_most : AtMost log_of_three (record { num = pos 8; den = 5 })
eight_fifths_at_most = (at_most_powers_over 1 3 1 5 (pos 8) (lit< tt) (lit< tt) (lit< tt)).1 (lit≤ tt)
