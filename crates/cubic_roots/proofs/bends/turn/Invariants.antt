use Rattle.std.proofs.Common.{◌≤◌, min, max}
use Rattle.cubic_roots.specs.Middles.{bend}
use Rattle.cubic_roots.proofs.bends.turn.Given as goal

-- both lie between the bend and the end
abbrev pub invariant-loop : goal.invariant-loop
invariant-loop l = record {
  falls_low : min bend l.end ≤ l.falls;
  falls_high : l.falls ≤ max bend l.end;
  rises_low : min bend l.end ≤ l.rises_at;
  rises_high : l.rises_at ≤ max bend l.end;
}
