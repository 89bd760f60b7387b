use Rattle.std.proofs.Common.{◌≡◌, None}
use Rattle.case_types.specs.Arithmetic.Faults.{first_below, attraction_fault}
use Rattle.case_types.specs.Arithmetic.Numbers.{numbers_of}
use Rattle.pr_params.proofs.bases.Bases.check_attractions.Given as goal

abbrev pub invariant-loop-i : goal.invariant-loop-i
invariant-loop-i l = first_below l.i (λ i. first_below l.self.case.n (attraction_fault (numbers_of l.self.case) i)) ≡ None
