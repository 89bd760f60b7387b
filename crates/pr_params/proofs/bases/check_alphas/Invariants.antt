use Rattle.std.proofs.Common.{◌≡◌, None}
use Rattle.case_types.specs.Arithmetic.Faults.{first_below, alpha_fault}
use Rattle.case_types.specs.Arithmetic.Numbers.{numbers_of}
use Rattle.pr_params.proofs.bases.check_alphas.Given as goal

abbrev pub invariant-loop-i : goal.invariant-loop-i
invariant-loop-i l = first_below l.i (alpha_fault (numbers_of l.case)) ≡ None
