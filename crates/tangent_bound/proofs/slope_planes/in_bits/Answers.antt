use Rattle.std.proofs.Common.{rules, ◌∙◌, arith, SFits, to_z-of_z}
use Rattle.std.specs.Int.{w128}
use Rattle.log_laws.specs.Whole.{floor_over, ceil_over}
use Rattle.log_laws.proofs.Exports.{back}
use Rattle.case_types.specs.Arithmetic.Bounds.{one}
use Rattle.slope_form.proofs.Exports.{capped_from}
use Rattle.tangent_bound.proofs.slope_planes.in_bits.Goals as goal

pub returns : goal.returns
returns c =
    let z = c.args.z in
    let low = rw (back z (omega (arith, c.requires))) at c.outward-lo.ensures.lo in
    let high = rw (back z (omega (arith, c.requires))) at c.outward-lo.ensures.hi in
    let lo : SFits w128 c.outward-lo.result.0 = search rules in
    let hi : SFits w128 c.outward-lo.result.1 = search rules in
    capped_from _ _ (floor_over z one) (ceil_over z one) c.cap.result (to_z-of_z lo ∙ low) (to_z-of_z hi ∙ high) c.cap.ensures.some c.cap.ensures.ends
