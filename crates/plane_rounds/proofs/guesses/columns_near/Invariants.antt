use Rattle.std.proofs.Common.{◌*◌, ◌≤◌, length}
use Rattle.std.specs.List.{All}
use Rattle.case_types.specs.Arithmetic.Numbers.{numbers_of}
use Rattle.energy_surface.specs.Columns.{IsColumn}
use Rattle.pr_surface.specs.PengRobinson.{surface_of}
use Rattle.plane_rounds.proofs.guesses.columns_near.Given as goal

abbrev pub invariant-loop-k : goal.invariant-loop-k
invariant-loop-k l = record {
  each : All (IsColumn (surface_of (numbers_of l.surface.params.now.case))) l.columns.items;
  few : length l.columns.items ≤ 2 * l.k;
}
