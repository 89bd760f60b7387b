use Rattle.std.proofs.Common.{◌≡◌, None}
use Rattle.case_types.specs.Arithmetic.Faults.{first_below}
use Rattle.cert_check.proofs.Balances.{unbalanced_at}
use Rattle.cert_check.proofs.testing.first_unbalanced.Given as goal

abbrev pub invariant-loop-i : goal.invariant-loop-i
invariant-loop-i l = first_below l.i (unbalanced_at l.head) ≡ None
