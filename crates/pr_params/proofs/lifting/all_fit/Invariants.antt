use Rattle.std.proofs.Common.{◌≡◌, true}
use Rattle.log_laws.specs.Sums.{all_below}
use Rattle.case_types.specs.Arithmetic.Numbers.{fits_lifted}
use Rattle.pr_params.proofs.lifting.all_fit.Given as goal

abbrev pub invariant-loop-i : goal.invariant-loop-i
invariant-loop-i l = all_below l.i (fits_lifted l.case l.lift) ≡ true
