use Rattle.energy_surface.specs.Program.Bases.{IsBasis}
use Rattle.exact_lp.proofs.tests.optimum.Given as goal

abbrev pub invariant-loop-pivots : goal.invariant-loop-pivots
invariant-loop-pivots l = IsBasis l.case l.columns.items l.basis.at
