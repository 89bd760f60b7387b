use Rattle.std.proofs.Common.{◌≡◌, ◌++◌, take}
use Rattle.plane_rounds.proofs.guesses.put.Given as goal

abbrev pub invariant-loop-k : goal.invariant-loop-k
invariant-loop-k l = l.to.items ≡ l.fn.to.items ++ take l.k l.from.items
