use Rattle.std.proofs.Common.{◌≡◌}
use Rattle.energy_surface.specs.Program.Splits.{phases_below}
use Rattle.exact_lp.proofs.splits.amounts.Given as goal

abbrev pub invariant-loop-k : goal.invariant-loop-k
invariant-loop-k l = l.phases.items ≡ phases_below l.case l.columns.items l.basis.at l.k
