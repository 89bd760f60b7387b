use Rattle.std.proofs.Common.{◌≡◌, ◌≤◌, length, take}
use Rattle.std.specs.List.{All}
use Rattle.energy_surface.specs.Columns.{IsColumn}
use Rattle.candidate_split.specs.Columns.{columns_near}
use Rattle.candidate_split.proofs.columns.columns_of.Given as goal

-- those of the phases before this one
abbrev pub invariant-loop-phase : goal.invariant-loop-phase
invariant-loop-phase g l = record {
  near : l.columns.items ≡ columns_near (g.S.Surface.bounds l.surface) l.case.n (take l.phase-index l.split.phases.items);
  each : All (IsColumn (g.S.Surface.bounds l.surface)) l.columns.items;
  few : length l.columns.items ≤ l.phase-index;
}
