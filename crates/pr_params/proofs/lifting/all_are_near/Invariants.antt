use Rattle.std.proofs.Common.{◌≡◌, true}
use Rattle.log_laws.specs.Sums.{all_below}
use Rattle.case_types.specs.Arithmetic.Faults.{is_near}
use Rattle.pr_params.proofs.lifting.all_are_near.Given as goal

abbrev pub invariant-loop-j : goal.invariant-loop-j
invariant-loop-j l = all_below l.j (is_near l.case l.i) ≡ true
