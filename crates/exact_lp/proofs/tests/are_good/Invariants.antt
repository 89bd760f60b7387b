use Rattle.std.proofs.Common.{ℕ, ◌<◌}
use Rattle.energy_surface.specs.Program.Bases.{column_at}
use Rattle.exact_lp.specs.Checked.{IsGood}
use Rattle.exact_lp.proofs.tests.are_good.Given as goal

abbrev pub invariant-loop-j : goal.invariant-loop-j
invariant-loop-j l = (i : ℕ) → i < l.j → IsGood l.n (column_at l.columns.items i)
