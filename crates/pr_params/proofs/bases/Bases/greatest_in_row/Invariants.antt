use Rattle.std.proofs.Common.{◌≡◌, ◌≤◌, ◌^◌, pos}
use Rattle.log_laws.specs.Sums.{greatest_below}
use Rattle.pr_params.specs.Entries.{ratio_entry}
use Rattle.pr_params.proofs.bases.Bases.greatest_in_row.Given as goal

abbrev pub invariant-loop-j : goal.invariant-loop-j
invariant-loop-j l = record { value : pos l.greatest ≡ greatest_below l.j (ratio_entry l.self.case l.i) (pos 0); high : l.greatest ≤ 2 ^ 47 }
