use Rattle.std.proofs.Common.{ℕ, ◌<◌, ◌<ℤ◌}
use Rattle.surface_rounds.specs.Rivals.{energy_at}
use Rattle.surface_rounds.proofs.choices.first_within.Given as goal

-- those before this one lie above the limit
abbrev pub invariant-loop-k : goal.invariant-loop-k
invariant-loop-k l = (j : ℕ) → j < l.k → l.limit <ℤ energy_at l.rivals.items j
