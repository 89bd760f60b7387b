use Rattle.std.proofs.Common.{◌≡◌, None}
use Rattle.case_types.specs.Arithmetic.Faults.{first_below, attraction_fault}
use Rattle.case_types.specs.Arithmetic.Numbers.{numbers_of}
use Rattle.pr_params.proofs.bases.Bases.check_row.Given as goal

abbrev pub invariant-loop-j : goal.invariant-loop-j
invariant-loop-j l = first_below l.j (attraction_fault (numbers_of l.self.case) l.i) ≡ None
