-- The ends of a logarithm as bounds.
use Rattle.std.proofs.Common.{ℕ, zero, suc, ◌≡◌, ◌+◌, ◌-◌, ◌*◌, ◌^◌, ◌≤◌, ◌<◌, Bool, true, false, cond, nat_eq, nat_lt, ℤ, pos, ◌+ℤ◌, ◌-ℤ◌, ◌*ℤ◌, ◌≤ℤ◌, unsigned_abs, arith, lit<, inl, inr}
use Rattle.std.proofs.lemmas.Int.{ints}
use Rattle.std.proofs.Math.Nat.{pow-suc, pow-le-pow_left, pow-le-pow_right, mul-le-mul_left, mul-le-mul_right, le_of_mul-le-mul_right, le_trans}
use Rattle.std.proofs.lemmas.Nat.{pow-add, pow_pos}
use Rattle.std.proofs.lemmas.Bool.{cases_lt}
use borrow.Author.Differences.{up as up_part, down as down_part, at_most_in}
use Rattle.log_laws.specs.Fraction.{whole}
use Rattle.log_laws.specs.LogSum.{AtLeast, AtMost, times_log, ratio}
use Rattle.log_laws.specs.Squaring.{down, up, digit, square_down, square_up, next_down, next_up, exponent, log_down, log_up, IsSmall}
use Rattle.log_enclose.proofs.Squares.{down_le}
use Rattle.log_enclose.proofs.SquaresUp.{up_le}
use Rattle.log_laws.proofs.Exports.{pow_pos_of}
use Rattle.log_laws.proofs.Exports.{at_least_powers_over, at_most_powers_over}
use Rattle.log_enclose.proofs.Width.{below_of_pow}
use Rattle.log_enclose.proofs.Logs.{exponent_is, normal_of, lo_at_least, hi_at_most, log_down_is, log_up_is}

pub log_down_at_least : (n s : ℕ) → 1 ≤ n → n < 2 ^ 62 → AtLeast (times_log (whole (pos 1)) (ratio n (2 ^ s))) (record { num = log_down n s; den = 2 ^ 40 })
log_down_at_least n s h l =
    let e = exponent_is n h l in
    lo_at_least n s (exponent n) (down (n * 2 ^ (61 - exponent n)) 40) (log_down n s) h e.2 (log_down_is n s)
    (down_le (n * 2 ^ (61 - exponent n)) 40 (normal_of n (exponent n) e.0 e.1 e.2))

pub log_up_at_most : (n s : ℕ) → 1 ≤ n → n < 2 ^ 62 → AtMost (times_log (whole (pos 1)) (ratio n (2 ^ s))) (record { num = log_up n s; den = 2 ^ 40 })
log_up_at_most n s h l =
    let e = exponent_is n h l in
    hi_at_most n s (exponent n) (up (n * 2 ^ (61 - exponent n)) 40) (log_up n s) h e.2 (log_up_is n s)
    (up_le (n * 2 ^ (61 - exponent n)) 40 (normal_of n (exponent n) e.0 e.1 e.2))

-- k digits are at most 2 ^ k
cond_small : (b : Bool) → cond b 0 1 ≤ 1
cond_small true = omega arith
cond_small false = omega arith

digit_and_more : (d x k : ℕ) → d ≤ 1 → x ≤ 2 ^ k → d * 2 ^ k + x ≤ 2 ^ suc k
digit_and_more d x k h l = let p : d * 2 ^ k ≤ 1 * 2 ^ k = mul-le-mul_right (2 ^ k) h in rw (pow-suc 2 k) (omega (arith, p, l))

down_small : (k m : ℕ) → down m k ≤ 2 ^ k
unfolding down
down_small zero m = omega arith
down_small (suc k) m =
    digit_and_more (digit (square_down m)) (down (next_down (square_down m)) k) k (cond_small (nat_lt (square_down m) (2 ^ 62)))
    (down_small k (next_down (square_down m)))

up_small : (k m : ℕ) → up m k ≤ 2 ^ k
unfolding up
up_small zero m = cond_small (nat_eq m (2 ^ 61))
up_small (suc k) m =
    digit_and_more (digit (square_up m)) (up (next_up (square_up m)) k) k (cond_small (nat_lt (square_up m) (2 ^ 62)))
    (up_small k (next_up (square_up m)))

-- a power of 2 at most n, and one above it, bound the ends
power_below : (n s k e d : ℕ) (z : ℤ) → k ≤ e → z ≡ (pos e -ℤ pos s) *ℤ pos (2 ^ 40) +ℤ pos d → ((pos k -ℤ pos s) *ℤ pos (2 ^ 40)) ≤ℤ z
power_below n s k e d z h is = rw is (omega (arith, ints))

power_above : (n s k e d : ℕ) (z : ℤ) → e < k → d ≤ 2 ^ 40 → z ≡ (pos e -ℤ pos s) *ℤ pos (2 ^ 40) +ℤ pos d → z ≤ℤ ((pos k -ℤ pos s) *ℤ pos (2 ^ 40))
power_above n s k e d z h l is = rw is (omega (arith, ints))

pub exponent_low : (n k : ℕ) → 1 ≤ n → n < 2 ^ 62 → 2 ^ k ≤ n → k ≤ exponent n
exponent_low n k h l p =
    let e = exponent_is n h l in
    let q : 2 ^ k < 2 ^ suc (exponent n) = omega (arith, p, e.1) in
    let r = below_of_pow k (suc (exponent n)) q in omega (arith, r)

pub exponent_high : (n k : ℕ) → 1 ≤ n → n < 2 ^ 62 → n < 2 ^ k → exponent n < k
exponent_high n k h l p =
    let e = exponent_is n h l in
    let q : 2 ^ exponent n < 2 ^ k = omega (arith, p, e.0) in
    below_of_pow (exponent n) k q

pub log_down_power_low : (n s k : ℕ) → 1 ≤ n → n < 2 ^ 62 → 2 ^ k ≤ n → ((pos k -ℤ pos s) *ℤ pos (2 ^ 40)) ≤ℤ log_down n s
log_down_power_low n s k h l p =
    power_below n s k (exponent n) (down (n * 2 ^ (61 - exponent n)) 40) (log_down n s) (exponent_low n k h l p) (log_down_is n s)

pub log_up_power_low : (n s k : ℕ) → 1 ≤ n → n < 2 ^ 62 → 2 ^ k ≤ n → ((pos k -ℤ pos s) *ℤ pos (2 ^ 40)) ≤ℤ log_up n s
log_up_power_low n s k h l p =
    power_below n s k (exponent n) (up (n * 2 ^ (61 - exponent n)) 40) (log_up n s) (exponent_low n k h l p) (log_up_is n s)

pub log_down_power_high : (n s k : ℕ) → 1 ≤ n → n < 2 ^ 62 → n < 2 ^ k → log_down n s ≤ℤ ((pos k -ℤ pos s) *ℤ pos (2 ^ 40))
log_down_power_high n s k h l p =
    power_above n s k (exponent n) (down (n * 2 ^ (61 - exponent n)) 40) (log_down n s) (exponent_high n k h l p)
    (down_small 40 (n * 2 ^ (61 - exponent n))) (log_down_is n s)

pub log_up_power_high : (n s k : ℕ) → 1 ≤ n → n < 2 ^ 62 → n < 2 ^ k → log_up n s ≤ℤ ((pos k -ℤ pos s) *ℤ pos (2 ^ 40))
log_up_power_high n s k h l p =
    power_above n s k (exponent n) (up (n * 2 ^ (61 - exponent n)) 40) (log_up n s) (exponent_high n k h l p)
    (up_small 40 (n * 2 ^ (61 - exponent n))) (log_up_is n s)

-- the power form of a lower and of an upper end
lower_powers : (n s : ℕ) → 1 ≤ n → n < 2 ^ 62 →
    2 ^ up_part (log_down n s) * (2 ^ s) ^ (1 * 2 ^ 40) ≤ 2 ^ down_part (log_down n s) * n ^ (1 * 2 ^ 40)
lower_powers n s h l =
    (at_least_powers_over 1 n (2 ^ s) (2 ^ 40) (log_down n s) h (pow_pos s) (lit< tt)).0 (log_down_at_least n s h l)

upper_powers : (n s : ℕ) → 1 ≤ n → n < 2 ^ 62 →
    2 ^ down_part (log_up n s) * n ^ (1 * 2 ^ 40) ≤ 2 ^ up_part (log_up n s) * (2 ^ s) ^ (1 * 2 ^ 40)
upper_powers n s h l =
    (at_most_powers_over 1 n (2 ^ s) (2 ^ 40) (log_up n s) h (pow_pos s) (lit< tt)).0 (log_up_at_most n s h l)

-- a lower end of n bounds the logarithm of what is larger
pub log_down_holds : (n m s : ℕ) → 1 ≤ n → n ≤ m → m < 2 ^ 62 →
    AtLeast (times_log (whole (pos 1)) (ratio m (2 ^ s))) (record { num = log_down n s; den = 2 ^ 40 })
log_down_holds n m s h le l =
    let p = lower_powers n s h (omega (arith, le, l)) in
    let q : n ^ (1 * 2 ^ 40) ≤ m ^ (1 * 2 ^ 40) = pow-le-pow_left le (1 * 2 ^ 40) in
    let r = mul-le-mul_left (2 ^ down_part (log_down n s)) q in
    (at_least_powers_over 1 m (2 ^ s) (2 ^ 40) (log_down n s) (omega (arith, h, le)) (pow_pos s) (lit< tt)).1 (le_trans p r)

pub log_up_holds : (n m s : ℕ) → 1 ≤ n → n ≤ m → m < 2 ^ 62 →
    AtMost (times_log (whole (pos 1)) (ratio n (2 ^ s))) (record { num = log_up m s; den = 2 ^ 40 })
log_up_holds n m s h le l =
    let p = upper_powers m s (omega (arith, h, le)) l in
    let q : n ^ (1 * 2 ^ 40) ≤ m ^ (1 * 2 ^ 40) = pow-le-pow_left le (1 * 2 ^ 40) in
    let r = mul-le-mul_left (2 ^ down_part (log_up m s)) q in
    (at_most_powers_over 1 n (2 ^ s) (2 ^ 40) (log_up m s) h (pow_pos s) (lit< tt)).1 (le_trans r p)

-- the lower end of n is at most the upper end of what is larger
crossed : (a b c d S N M : ℕ) → 0 < S → N ≤ M → 2 ^ a * S ≤ 2 ^ b * N → 2 ^ d * M ≤ 2 ^ c * S → a + d ≤ b + c
crossed a b c d S N M some le p q =
    let p' = mul-le-mul_left (2 ^ d) p in
    let n' = mul-le-mul_left (2 ^ b) (mul-le-mul_left (2 ^ d) le) in
    let q' = mul-le-mul_left (2 ^ b) q in
    let all : 2 ^ a * 2 ^ d * S ≤ 2 ^ b * 2 ^ c * S = omega (arith, p', n', q') in
    let powers : 2 ^ (a + d) ≤ 2 ^ (b + c) = rw (pow-add 2 a d, pow-add 2 b c) (le_of_mul-le-mul_right {k = S} all some) in
    elim (cases_lt (b + c) (a + d)) [
      | inl less ↦ let strict : 2 ^ (b + c) < 2 ^ (a + d) = pow_lt (b + c) (a + d) less in absurd (omega (arith, powers, strict))
      | inr more ↦ more
    ]
  where
    pow_lt : (i j : ℕ) → i < j → 2 ^ i < 2 ^ j
    pow_lt i j h =
        let next : 2 ^ suc i ≤ 2 ^ j = pow-le-pow_right (lit< tt) {i = suc i} {j = j} h in
        let double = pow-suc 2 i in
        let some : 0 < 2 ^ i = pow_pos i in
        omega (arith, next, double, some)

pub log_ordered : (n m s : ℕ) → 1 ≤ n → n ≤ m → m < 2 ^ 62 → log_down n s ≤ℤ log_up m s
log_ordered n m s h le l =
    at_most_in (log_down n s) (log_up m s)
    (let x = crossed (up_part (log_down n s)) (down_part (log_down n s)) (up_part (log_up m s)) (down_part (log_up m s))
    ((2 ^ s) ^ (1 * 2 ^ 40)) (n ^ (1 * 2 ^ 40)) (m ^ (1 * 2 ^ 40)) (pow_pos_of (2 ^ s) (1 * 2 ^ 40) (pow_pos s)) (pow-le-pow_left le (1 * 2 ^ 40))
    (lower_powers n s h (omega (arith, le, l))) (upper_powers m s (omega (arith, h, le)) l) in
    omega (arith, x))

-- an end that is small is read back as it is
pub small_fits : (z : ℤ) → IsSmall z → unsigned_abs z < 2 ^ 62
small_fits z h = omega (arith, ints, h.0, h.1)
