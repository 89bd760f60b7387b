-- Square roots, down and up to whole numbers.
use Rattle.std.specs.Prelude.{ℕ, zero, suc, ◌+◌, ◌*◌, ◌/◌, ◌^◌, cond, nat_le, ◌==◌, ℤ, pos, unsigned_abs}
use Rattle.log_laws.specs.Between.{Ends}

-- r with its last binary digit, 0 so far, set to 1 where the square is still at most n
unfoldable pub with_digit : ℕ → ℕ → ℕ
with_digit n r = cond (nat_le ((r + 1) * (r + 1)) n) (r + 1) r

-- the greatest number whose square is at most n, for n below 4 ^ k: k binary digits from the top
unfoldable pub root_digits : ℕ → ℕ → ℕ
root_digits zero n = 0
root_digits (suc k) n = with_digit n (2 * root_digits k (n / 4))

-- the root of n, rounded down, for n below 2 ^ 128
abbrev pub floor_root : ℕ → ℕ
floor_root n = root_digits 64 n

-- the root of num / den, over 2 ^ scale, rounded down
abbrev pub root_floor : ℕ → ℕ → ℕ → ℕ
root_floor num den scale = floor_root (num * 4 ^ scale / den)

-- r where r is the root of n / den, and else the next number
abbrev pub ceiling_from : ℕ → ℕ → ℕ → ℕ
ceiling_from r n den = cond (r * r * den == n) r (r + 1)

-- the root of num / den, over 2 ^ scale, rounded up
abbrev pub root_ceiling : ℕ → ℕ → ℕ → ℕ
root_ceiling num den scale = ceiling_from (root_floor num den scale) (num * 4 ^ scale) den

-- the ends of the root of num / den over 2 ^ scale
abbrev pub root_ends : ℕ → ℕ → ℕ → Ends
root_ends num den scale =
    record { lo = pos (root_floor num den scale); hi = pos (root_ceiling num den scale) }

-- the square of z times d
abbrev pub square_times : ℤ → ℕ → ℕ
square_times z d = unsigned_abs z * unsigned_abs z * d
