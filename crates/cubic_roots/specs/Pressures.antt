-- The pressure of the equation of Peng and Robinson at a packing fraction y, at the middles of the parameters over a box of
-- compositions, in whole numbers of 2^-40.
use Rattle.std.specs.Prelude.{ℕ, ◌+◌, ◌-◌, ◌*◌, ◌^◌, ◌≤◌, ◌<◌, ℤ, pos, ◌+ℤ◌, ◌-ℤ◌, ◌*ℤ◌, ◌≤ℤ◌, ◌<ℤ◌, ◌⊎◌}
use Rattle.log_laws.specs.Whole.{floor_div}
use Rattle.case_types.specs.Arithmetic.Numbers.{Numbers}
use Rattle.case_types.specs.Arithmetic.Bounds.{Box, one, covolume_scale, covolume_range, ratio_low, ratio_high}

-- the middles of the reduced covolume, and of the reduced attraction over it, rounded down
unfoldable pub middle_covolume : Numbers → Box → ℤ
middle_covolume p x = floor_div ((covolume_range p x).lo +ℤ (covolume_range p x).hi) (pos (2 * covolume_scale p))

unfoldable pub middle_ratio : Numbers → Box → ℤ
middle_ratio p x = floor_div (ratio_low p x +ℤ ratio_high p x) (pos 2)

-- y/(1-y) - g*y*y/(1+2*y-y*y) - b: the reduced pressure less that of the case
unfoldable pub excess_of : ℤ → ℤ → ℕ → ℤ
excess_of b g y =
    floor_div (pos (y * one)) (pos (one - y))
    -ℤ floor_div (g *ℤ pos (y * y)) (pos (one * one + 2 * y * one - y * y))
    -ℤ b

abbrev pub excess : Numbers → Box → ℕ → ℤ
excess p x y = excess_of (middle_covolume p x) (middle_ratio p x) y

-- from y to the next number the pressure passes that of the case
abbrev pub ChangesSign : Numbers → Box → ℕ → Type 0
ChangesSign p x y =
    ((excess p x y ≤ℤ pos 0) × (pos 0 <ℤ excess p x (y + 1))) ⊎ ((pos 0 <ℤ excess p x y) × (excess p x (y + 1) ≤ℤ pos 0))

-- y and the next number lie strictly between 0 and 1
abbrev pub IsPlace : ℕ → Type 0
IsPlace y = (1 ≤ y) × (y + 1 < 2 ^ 40)
