use Rattle.std.proofs.Common.{ℤ, ◌≤ℤ◌, arith}
use Rattle.std.proofs.lemmas.Int.{ints}
use Rattle.candidate_split.proofs.polishing.polish.Goals as goal

pub returns-in-None-clause-no_worse : goal.returns-in-None-clause-no_worse
returns-in-None-clause-no_worse g c = at_most_itself _
  where
    at_most_itself : (z : ℤ) → z ≤ℤ z
    at_most_itself z = omega (arith, ints)
