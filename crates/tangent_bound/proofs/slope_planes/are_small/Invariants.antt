use Rattle.std.proofs.Common.{◌≡◌, true}
use Rattle.tangent_bound.specs.SlopeLows.{have_small_potentials}
use Rattle.tangent_bound.proofs.slope_planes.are_small.Given as goal

abbrev pub invariant-loop-i : goal.invariant-loop-i
invariant-loop-i l = have_small_potentials l.i l.plane.lam ≡ true
