use Rattle.std.proofs.Common.{◌≡◌, ◌∷◌, length}
use Rattle.fibre_bound.specs.Lows.{least_of}
use Rattle.fibre_bound.proofs.lows.least_low.Given as goal

abbrev pub invariant-loop-cell : goal.invariant-loop-cell
invariant-loop-cell l = least_of l.least l.left ≡ least_of l.fn.least (l.hand ∷ l.fn.left)

abbrev pub decreases-loop-cell : goal.decreases-loop-cell
decreases-loop-cell l = length l.left
