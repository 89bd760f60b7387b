use Rattle.std.proofs.Common.{◌≡◌, ◌≤◌, ◌-◌}
use Rattle.energy_surface.specs.Program.Bases.{IsBasis}
use Rattle.surface_rounds.specs.Flashing.{Pivoted}
use Rattle.surface_rounds.proofs.optimizing.optimize.Given as goal

abbrev pub invariant-loop-enter : goal.invariant-loop-enter
invariant-loop-enter l = record {
  basis : IsBasis l.case l.columns.items l.basis.at;
  pivoted : Pivoted l.case l.columns.items l.initial.basis.at l.basis.at l.initial.pivots l.pivots (l.units.spent - l.initial.units.spent);
  spent : l.initial.units.spent ≤ l.units.spent;
  budget : l.units.budget ≡ l.initial.units.budget;
}

abbrev pub decreases-loop-enter : goal.decreases-loop-enter
decreases-loop-enter l = l.units.budget - l.units.spent
