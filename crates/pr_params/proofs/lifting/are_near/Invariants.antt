use Rattle.std.proofs.Common.{◌≡◌, true}
use Rattle.log_laws.specs.Sums.{all_below}
use Rattle.case_types.specs.Arithmetic.Faults.{is_near}
use Rattle.pr_params.proofs.lifting.are_near.Given as goal

abbrev pub invariant-loop-i : goal.invariant-loop-i
invariant-loop-i l = all_below l.i (λ i. all_below l.case.n (is_near l.case i)) ≡ true
