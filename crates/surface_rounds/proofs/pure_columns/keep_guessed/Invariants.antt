use Rattle.std.proofs.Common.{◌≡◌, ◌+◌, ◌++◌, take}
use Rattle.surface_rounds.proofs.pure_columns.keep_guessed.Given as goal

abbrev pub invariant-loop-k : goal.invariant-loop-k
invariant-loop-k l = record {
  kept : l.columns.items ≡ l.fn.columns.items ++ take l.k l.guessed.items;
  room : l.columns.spare + l.k ≡ l.fn.columns.spare;
}
