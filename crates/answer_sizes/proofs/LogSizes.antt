-- How far logarithms of whole numbers go: below by the scale, above by 128.
use Rattle.std.proofs.Common.{◌≡◌, ℕ, zero, suc, ◌+◌, ◌-◌, ◌*◌, ◌^◌, ◌≤◌, Bool, true, false, cond, pos, neg_ℤ, ◌+ℤ◌, ◌-ℤ◌, ◌*ℤ◌, ◌≤ℤ◌, arith}
use Rattle.std.specs.Prelude.{nat_lt, nat_eq}
use Rattle.std.proofs.lemmas.Int.{ints}
use Rattle.log_laws.specs.Squaring.{log_down, log_up, exponent, down, up, digit, square_up, next_up}

pub log_down_least : (n s : ℕ) → neg_ℤ (pos (s * 2 ^ 40)) ≤ℤ log_down n s
unfolding log_down
log_down_least n s = at_least (exponent n) (down (n * 2 ^ (61 - exponent n)) 40)
  where
    at_least : (e d : ℕ) → neg_ℤ (pos (s * 2 ^ 40)) ≤ℤ ((pos e -ℤ pos s) *ℤ pos (2 ^ 40) +ℤ pos d)
    at_least e d = omega (arith, ints)

-- the digits are those of a fraction, rounded up
digit_most : (b : Bool) → cond b 0 1 ≤ 1
digit_most true = omega arith
digit_most false = omega arith

last_most : (b : Bool) → cond b 0 1 ≤ 1
last_most b = digit_most b

up_most : (m k : ℕ) → up m k ≤ 2 ^ k
unfolding up
up_most m zero = last_most (nat_eq m (2 ^ 61))
up_most m (suc k) = doubled (digit (square_up m)) (2 ^ k) (up (next_up (square_up m)) k) (2 ^ suc k) (digit_most (nat_lt (square_up m) (2 ^ 62))) (up_most (next_up (square_up m)) k) (omega arith)
  where
    doubled : (d p u q : ℕ) → d ≤ 1 → u ≤ p → q ≡ 2 * p → d * p + u ≤ q
    doubled zero p u q h k e = omega (arith, k, e)
    doubled (suc zero) p u q h k e = omega (arith, k, e)
    doubled (suc (suc d)) p u q h k e = absurd (omega (arith, h))

pub log_up_most : (n s : ℕ) → log_up n s ≤ℤ pos (2 ^ 47)
unfolding log_up
log_up_most n s = at_most (exponent n) (up (n * 2 ^ (61 - exponent n)) 40) (omega arith) (up_most (n * 2 ^ (61 - exponent n)) 40)
  where
    at_most : (e d : ℕ) → e ≤ 127 → d ≤ 2 ^ 40 → ((pos e -ℤ pos s) *ℤ pos (2 ^ 40) +ℤ pos d) ≤ℤ pos (2 ^ 47)
    at_most e d h k = omega (arith, ints, h, k)
