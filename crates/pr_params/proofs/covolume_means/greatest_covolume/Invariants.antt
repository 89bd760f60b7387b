use Rattle.std.proofs.Common.{◌≡◌, ◌^◌, pos, ◌≤ℤ◌}
use Rattle.log_laws.specs.Sums.{greatest_below}
use Rattle.case_types.specs.Arithmetic.Numbers.{numbers_of}
use Rattle.case_types.specs.Arithmetic.Tables.{ends_at}
use Rattle.pr_params.proofs.covolume_means.greatest_covolume.Given as goal

abbrev pub invariant-loop-i : goal.invariant-loop-i
invariant-loop-i l =
    let b = (numbers_of l.params.case).covolumes in
    (l.greatest ≡ greatest_below l.i (λ i. (ends_at b i).hi) (ends_at b 0).hi) × (pos (2 ^ 50) ≤ℤ l.greatest) × (l.greatest ≤ℤ pos (2 ^ 61))
