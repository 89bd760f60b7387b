use Rattle.std.proofs.Common.{◌≡◌, ◌-◌}
use Rattle.surface_rounds.specs.Flashing.{IsBetweenRounds}
use Rattle.surface_rounds.proofs.flashing.flashed.Given as goal

abbrev pub invariant-loop-work : goal.invariant-loop-work
invariant-loop-work g l = record {
  between : IsBetweenRounds (g.S.Surface.bounds l.surface) l.case l.tol l.units l.work l.basis.at;
  budget : l.units.budget ≡ l.budget;
}

abbrev pub decreases-loop-work : goal.decreases-loop-work
decreases-loop-work g l = l.units.budget - l.units.spent
