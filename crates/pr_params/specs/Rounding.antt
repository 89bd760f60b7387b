-- The two sides of a bound: at least, by lower ends rounded down, and at most, by upper ends rounded up.
use Rattle.std.specs.Prelude.{ℕ, ℤ, pos, ◌*ℤ◌, ◌^◌}
use Rattle.log_laws.specs.Between.{Ends}
use Rattle.log_laws.specs.Sums.{int_sum_below}
use Rattle.log_laws.specs.Whole.{floor_div, ceil_div}
use Rattle.case_types.specs.Arithmetic.Bounds.{Box, low_fraction, high_fraction}
use Rattle.case_types.specs.Arithmetic.Numbers.{Numbers}
use Rattle.case_types.specs.Arithmetic.Tables.{ends_of_pair}
use Rattle.pr_params.specs.declared.bounds.Bound.{Bound}
use Rattle.pr_params.specs.declared.bounds.Bound.TheVariants.{AtLeast, AtMost}

abbrev pub end_on : Bound → Ends → ℤ
end_on AtLeast v = v.lo
end_on AtMost v = v.hi

abbrev pub fraction_on : Bound → Box → ℕ → ℤ
fraction_on AtLeast x i = low_fraction x i
fraction_on AtMost x i = high_fraction x i

-- a number in 2^-40, rounded to the side
abbrev pub rounded_on : Bound → ℤ → ℤ
rounded_on AtLeast z = floor_div z (pos (2 ^ 40))
rounded_on AtMost z = ceil_div z (pos (2 ^ 40))

-- the mean attraction of a component with all
abbrev pub row_on : Bound → Numbers → Box → ℕ → ℤ
row_on bound p x i =
    rounded_on bound (int_sum_below p.count (λ j. fraction_on bound x j *ℤ end_on bound (ends_of_pair p.attractions i j)))

-- the mean attraction
abbrev pub attraction_on : Bound → Numbers → Box → ℤ
attraction_on bound p x = rounded_on bound (int_sum_below p.count (λ i. fraction_on bound x i *ℤ row_on bound p x i))
