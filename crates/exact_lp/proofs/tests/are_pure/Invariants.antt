use Rattle.std.proofs.Common.{ℕ, ◌<◌}
use Rattle.energy_surface.specs.Program.Bases.{column_at}
use Rattle.exact_lp.specs.Checked.{IsPure}
use Rattle.exact_lp.proofs.tests.are_pure.Given as goal

abbrev pub invariant-loop-k : goal.invariant-loop-k
invariant-loop-k l = (i : ℕ) → i < l.k → IsPure i (column_at l.columns.items i)
