use Rattle.std.proofs.Common.{◌≡◌, ◌+◌}
use Rattle.surface_rounds.specs.Flashing.{ArePure}
use Rattle.surface_rounds.proofs.pure_columns.keep_pure.Given as goal

abbrev pub invariant-loop-k : goal.invariant-loop-k
invariant-loop-k g l = record {
  pure : ArePure (g.S.Surface.bounds l.surface) l.k l.columns.items;
  room : l.columns.spare + l.k ≡ l.fn.columns.spare;
}
