use Rattle.std.proofs.Common.{◌^◌, ◌≤◌, unsigned_abs}
use Rattle.surface_rounds.specs.Choices.{IsLeast}
use Rattle.surface_rounds.proofs.choices.least.Given as goal

abbrev pub invariant-loop-k : goal.invariant-loop-k
invariant-loop-k l = record {
  least : IsLeast l.rivals.items l.k l.basis l.least;
  small : unsigned_abs l.least ≤ 2 ^ 109;
}
