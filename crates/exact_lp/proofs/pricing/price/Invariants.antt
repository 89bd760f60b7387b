use Rattle.std.proofs.Common.{ℕ, ◌<◌, pos, ◌≤ℤ◌}
use Rattle.energy_surface.specs.Program.Bases.{column_at}
use Rattle.energy_surface.specs.Program.Pivots.{price_of}
use Rattle.exact_lp.proofs.pricing.price.Given as goal

abbrev pub invariant-loop-j : goal.invariant-loop-j
invariant-loop-j l = (i : ℕ) → i < l.j → pos 0 ≤ℤ price_of l.case.n l.columns.items l.basis.at (column_at l.columns.items i)
