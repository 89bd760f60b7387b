use Rattle.std.proofs.Common.{◌≡◌, ◌≤◌}
use Rattle.slope_form.specs.Arithmetic.{ends_if}
use Rattle.tangent_bound.specs.SlopeLows.{sum_of_all as sum_of_entries}
use Rattle.tangent_bound.specs.SlopeParts.{entry}
use Rattle.tangent_bound.proofs.mix_forms.sum_of_all.Given as goal

abbrev pub invariant-loop-i : goal.invariant-loop-i
invariant-loop-i l = (ends_if l.all ≡ sum_of_entries l.i (entry l.v)) × (l.i ≤ l.n)
