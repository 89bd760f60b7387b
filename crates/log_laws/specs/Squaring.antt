-- The logarithm to the base 2 of m / 2 ^ 61, for m from 2 ^ 61 to below 2 ^ 62, in k binary digits, by repeated squaring.
use Rattle.std.specs.Prelude.{ℕ, zero, suc, ◌+◌, ◌-◌, ◌*◌, ◌/◌, ◌^◌, ◌<◌, ◌≤◌, nat_lt, nat_eq, cond, ℤ, pos, neg_ℤ, ◌+ℤ◌, ◌-ℤ◌, ◌*ℤ◌, ◌≤ℤ◌}
use Rattle.log_laws.specs.Whole.{ceil_quotient}
use lib.Count.{count_leading_zeros}

abbrev pub IsNormal : ℕ → Type 0
IsNormal m = (2 ^ 61 ≤ m) × (m < 2 ^ 62)

-- the square, down and up to a whole number
abbrev pub square_down : ℕ → ℕ
square_down m = m * m / 2 ^ 61

abbrev pub square_up : ℕ → ℕ
square_up m = ceil_quotient (m * m) (2 ^ 61)

-- the digit is 1 where the square is 2 or more, and then it is halved
abbrev pub digit : ℕ → ℕ
digit square = cond (nat_lt square (2 ^ 62)) 0 1

abbrev pub next_down : ℕ → ℕ
next_down square = cond (nat_lt square (2 ^ 62)) square (square / 2)

abbrev pub next_up : ℕ → ℕ
next_up square = cond (nat_lt square (2 ^ 62)) square (ceil_quotient square 2)

unfoldable pub down : ℕ → ℕ → ℕ
down m zero = 0
down m (suc k) = digit (square_down m) * 2 ^ k + down (next_down (square_down m)) k

unfoldable pub up : ℕ → ℕ → ℕ
up m zero = cond (nat_eq m (2 ^ 61)) 0 1
up m (suc k) = digit (square_up m) * 2 ^ k + up (next_up (square_up m)) k

-- e where 2 ^ e is at most n and 2 ^ (e + 1) above it, for n from 1 to below 2 ^ 128
abbrev pub exponent : ℕ → ℕ
exponent n = 127 - count_leading_zeros 128 n

-- the logarithm of n / 2 ^ s in 2 ^ -40, down and up
unfoldable pub log_down : ℕ → ℕ → ℤ
log_down n s = (pos (exponent n) -ℤ pos s) *ℤ pos (2 ^ 40) +ℤ pos (down (n * 2 ^ (61 - exponent n)) 40)

unfoldable pub log_up : ℕ → ℕ → ℤ
log_up n s = (pos (exponent n) -ℤ pos s) *ℤ pos (2 ^ 40) +ℤ pos (up (n * 2 ^ (61 - exponent n)) 40)

-- no further from 0 than 101
abbrev pub IsSmall : ℤ → Type 0
IsSmall z = (neg_ℤ (pos (101 * 2 ^ 40)) ≤ℤ z) × (z ≤ℤ pos (101 * 2 ^ 40))
