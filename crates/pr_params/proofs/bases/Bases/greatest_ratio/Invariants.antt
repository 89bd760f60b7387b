use Rattle.std.proofs.Common.{◌≡◌, ◌≤◌, ◌^◌, pos}
use Rattle.log_laws.specs.Sums.{greatest_below}
use Rattle.pr_params.specs.Entries.{ratio_entry}
use Rattle.pr_params.proofs.bases.Bases.greatest_ratio.Given as goal

abbrev pub invariant-loop-i : goal.invariant-loop-i
invariant-loop-i l = record { value : pos l.greatest ≡ greatest_below l.i (λ i. greatest_below l.self.case.n (ratio_entry l.self.case i) (pos 0)) (pos 0); high : l.greatest ≤ 2 ^ 47 }
