use Rattle.std.proofs.Common.{◌≡◌, ◌+◌, ◌++◌, length}
use Rattle.std.specs.Prelude.{All}
use Rattle.surface_rounds.specs.Guessing.{IsGuess}
use Rattle.surface_rounds.specs.Rivals.{AreRivals, splits_behind}
use Rattle.surface_rounds.proofs.rivals.rivals.Given as goal

abbrev pub invariant-loop : goal.invariant-loop
invariant-loop g l = record {
  rivals : AreRivals (g.S.Surface.bounds l.surface) l.case l.list.items;
  guessed : All (IsGuess (g.S.Surface.bounds l.surface) l.case) l.guessed.items;
  counted : length l.list.items ≡ l.counter + 1;
  behind : splits_behind l.list.items ++ l.guessed.items ≡ l.initial.guessed.items;
  left : length l.guessed.items + l.counter ≡ length l.initial.guessed.items;
}
