-- The extremes of the products, the squares and the quotients of intervals' values.
use Rattle.std.specs.Prelude.{ℕ, ◌^◌, ℤ, pos, ◌*ℤ◌}
use Rattle.std.specs.Int.{int_min, int_max}
use Rattle.log_laws.specs.Whole.{floor_div, ceil_div}
use Rattle.log_laws.specs.declared.iv.Iv.{Iv}

abbrev pub least_of_four : ℤ → ℤ → ℤ → ℤ → ℤ
least_of_four a b c d = int_min (int_min a b) (int_min c d)

abbrev pub greatest_of_four : ℤ → ℤ → ℤ → ℤ → ℤ
greatest_of_four a b c d = int_max (int_max a b) (int_max c d)

-- the least and the greatest of the four products of ends
abbrev pub least_product : Iv → Iv → ℤ
least_product a b = least_of_four (a.lo *ℤ b.lo) (a.lo *ℤ b.hi) (a.hi *ℤ b.lo) (a.hi *ℤ b.hi)

abbrev pub greatest_product : Iv → Iv → ℤ
greatest_product a b =
    greatest_of_four (a.lo *ℤ b.lo) (a.lo *ℤ b.hi) (a.hi *ℤ b.lo) (a.hi *ℤ b.hi)

-- the number from lo to hi that is nearest to 0
abbrev pub nearest_to_zero : ℤ → ℤ → ℤ
nearest_to_zero lo hi = int_max lo (int_min (pos 0) hi)

-- the least and the greatest of the squares of the interval's values;
-- the least is 0 where the interval holds 0
abbrev pub least_square : Iv → ℤ
least_square a = nearest_to_zero a.lo a.hi *ℤ nearest_to_zero a.lo a.hi

abbrev pub greatest_square : Iv → ℤ
greatest_square a = int_max (a.lo *ℤ a.lo) (a.hi *ℤ a.hi)

-- The least of the quotients of a's values by b's, times 2 ^ shift, rounded down, and the greatest
-- of them, rounded up. b's values are positive, so the least is of a's lower end, and the greatest
-- of a's upper end.
abbrev pub least_quotient : Iv → Iv → ℕ → ℤ
least_quotient a b shift =
    int_min (floor_div (a.lo *ℤ pos (2 ^ shift)) b.lo) (floor_div (a.lo *ℤ pos (2 ^ shift)) b.hi)

abbrev pub greatest_quotient : Iv → Iv → ℕ → ℤ
greatest_quotient a b shift =
    int_max (ceil_div (a.hi *ℤ pos (2 ^ shift)) b.lo) (ceil_div (a.hi *ℤ pos (2 ^ shift)) b.hi)
