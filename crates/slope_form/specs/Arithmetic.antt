-- Arithmetic of ends in 2^-40, with no result where an end would have size 2^61 or more.
use Rattle.std.specs.Prelude.{◌^◌, ◌&&◌, if◌then◌else◌, Option, Some, None, option_map, nat_lt, int_le, int_lt, unsigned_abs, ℤ, pos, ◌+ℤ◌, ◌-ℤ◌, ◌*ℤ◌}
use Rattle.std.specs.Int.{int_min, int_max}
use Rattle.log_laws.specs.Between.{Ends}
use Rattle.log_laws.specs.Squaring.{log_down, log_up}
use Rattle.log_laws.specs.Whole.{floor_over, ceil_over, floor_div, ceil_div}
use Rattle.log_laws.specs.declared.iv.Iv.{Iv}
use Rattle.log_laws.specs.Interval.{ends, ends_of}
use Rattle.fix_interval.specs.Extremes.{least_of_four, greatest_of_four}

unfoldable pub capped : ℤ → ℤ → Option Ends
capped lo hi =
    if int_le lo hi && (nat_lt (unsigned_abs lo) (2 ^ 61) && nat_lt (unsigned_abs hi) (2 ^ 61)) then Some (ends lo hi) else None

unfoldable pub sum_of_ends : Ends → Ends → Option Ends
sum_of_ends v w = capped (v.lo +ℤ w.lo) (v.hi +ℤ w.hi)

unfoldable pub difference_of_ends : Ends → Ends → Option Ends
difference_of_ends v w = capped (v.lo -ℤ w.hi) (v.hi -ℤ w.lo)

unfoldable pub product_of_ends : Ends → Ends → Option Ends
product_of_ends v w =
    capped (floor_over (least_of_four (v.lo *ℤ w.lo) (v.lo *ℤ w.hi) (v.hi *ℤ w.lo) (v.hi *ℤ w.hi)) (2 ^ 40))
    (ceil_over (greatest_of_four (v.lo *ℤ w.lo) (v.lo *ℤ w.hi) (v.hi *ℤ w.lo) (v.hi *ℤ w.hi)) (2 ^ 40))

-- none where the divisor's lower end is below 1
unfoldable pub quotient_of_ends : Ends → Ends → Option Ends
quotient_of_ends v w =
    if int_lt w.lo (pos 1) then None else capped (int_min (floor_div (v.lo *ℤ pos (2 ^ 40)) w.lo) (floor_div (v.lo *ℤ pos (2 ^ 40)) w.hi))
    (int_max (ceil_div (v.hi *ℤ pos (2 ^ 40)) w.lo) (ceil_div (v.hi *ℤ pos (2 ^ 40)) w.hi))

-- none where the argument's lower end is below 1
unfoldable pub log_of_ends : Ends → Option Ends
log_of_ends v = if int_lt v.lo (pos 1) then None else capped (log_down (unsigned_abs v.lo) 40) (log_up (unsigned_abs v.hi) 40)

abbrev pub ends_if : Option Iv → Option Ends
ends_if v = option_map ends_of v

-- an operation on two results
abbrev pub both : {A B C : Type 0} → (A → B → Option C) → Option A → Option B → Option C
both h None b = None
both h (Some a) None = None
both h (Some a) (Some b) = h a b
