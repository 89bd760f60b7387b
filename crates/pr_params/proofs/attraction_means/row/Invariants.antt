use Rattle.std.proofs.Common.{◌≡◌, ◌*◌, ◌^◌, pos, ◌≤ℤ◌, ◌*ℤ◌}
use Rattle.log_laws.specs.Sums.{int_sum_below}
use Rattle.case_types.specs.Arithmetic.Numbers.{numbers_of}
use Rattle.case_types.specs.Arithmetic.Tables.{ends_of_pair}
use Rattle.case_types.specs.Arithmetic.Bounds.{box_of}
use Rattle.pr_params.specs.Rounding.{fraction_on, end_on}
use Rattle.pr_params.proofs.attraction_means.row.Given as goal

abbrev pub invariant-loop-j : goal.invariant-loop-j
invariant-loop-j l =
    (l.sum ≡ int_sum_below l.j (λ j. fraction_on l.bound (box_of l.x) j *ℤ end_on l.bound (ends_of_pair (numbers_of l.params.case).attractions l.i j)))
    × (pos 0 ≤ℤ l.sum)
    × (l.sum ≤ℤ pos (l.j * 2 ^ 101))
