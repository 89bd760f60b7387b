use Rattle.std.proofs.Common.{arith}
use Rattle.std.proofs.lemmas.Bool.{ltb-true}
use Rattle.log_laws.proofs.Exports.{all_below-at, back}
use Rattle.case_types.specs.Arithmetic.Bounds.{potential}
use Rattle.tangent_bound.specs.SlopeLows.{has_small_potential}
use Rattle.tangent_bound.proofs.slope_planes.potential.Goals as goal

pub exact-requires : goal.exact-requires
exact-requires c =
    let z = potential c.args.plane.now.lam c.args.i in
    let small = ltb-true _ _ (all_below-at c.args.n (has_small_potential c.args.plane.now.lam) c.args.i c.if-i-n.true c.requires.small) in
    rw (back z (omega (arith, small))) small
