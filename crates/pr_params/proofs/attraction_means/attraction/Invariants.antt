use Rattle.std.proofs.Common.{◌≡◌, ◌*◌, ◌^◌, pos, ◌≤ℤ◌, ◌*ℤ◌}
use Rattle.log_laws.specs.Sums.{int_sum_below}
use Rattle.case_types.specs.Arithmetic.Numbers.{numbers_of}
use Rattle.case_types.specs.Arithmetic.Bounds.{box_of}
use Rattle.pr_params.specs.Rounding.{fraction_on, row_on}
use Rattle.pr_params.proofs.attraction_means.attraction.Given as goal

abbrev pub invariant-loop-i : goal.invariant-loop-i
invariant-loop-i l =
    (l.sum ≡ int_sum_below l.i (λ i. fraction_on l.bound (box_of l.x) i *ℤ row_on l.bound (numbers_of l.params.case) (box_of l.x) i))
    × (pos 0 ≤ℤ l.sum)
    × (l.sum ≤ℤ pos (l.i * 2 ^ 103))
