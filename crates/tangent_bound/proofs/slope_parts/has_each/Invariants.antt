use Rattle.std.proofs.Common.{◌≡◌, true}
use Rattle.tangent_bound.specs.SlopeParts.{has_each}
use Rattle.tangent_bound.proofs.slope_parts.has_each.Given as goal

abbrev pub invariant-loop-i : goal.invariant-loop-i
invariant-loop-i l = has_each l.i l.x.middle ≡ true
