-- Whole numbers: their two parts, and quotients down and up.
use Rattle.std.specs.Prelude.{ℕ, suc, ◌+◌, ◌-◌, ◌/◌, ℤ, pos, negsuc, neg_ℤ, unsigned_abs}

-- z is its positive part less its negative part, and one of them is 0
abbrev pub positive_part : ℤ → ℕ
positive_part (pos n) = n
positive_part (negsuc n) = 0

abbrev pub negative_part : ℤ → ℕ
negative_part (pos n) = 0
negative_part (negsuc n) = suc n

-- the least whole number that is at least n / d
abbrev pub ceil_quotient : ℕ → ℕ → ℕ
ceil_quotient n d = (n + (d - 1)) / d

-- the greatest whole number that is at most z / d
abbrev pub floor_over : ℤ → ℕ → ℤ
floor_over (pos a) d = pos (a / d)
floor_over (negsuc a) d = negsuc (a / d)

-- the least whole number that is at least z / d
abbrev pub ceil_over : ℤ → ℕ → ℤ
ceil_over z d = neg_ℤ (floor_over (neg_ℤ z) d)

-- the same where the divisor is a whole number above 0
abbrev pub floor_div : ℤ → ℤ → ℤ
floor_div z d = floor_over z (unsigned_abs d)

abbrev pub ceil_div : ℤ → ℤ → ℤ
ceil_div z d = ceil_over z (unsigned_abs d)
