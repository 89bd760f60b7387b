use Rattle.std.proofs.Common.{rules, ◌∙◌, ◌^◌, ◌<◌, arith, ap, ℤ, pos, ◌≤ℤ◌, unsigned_abs, SFits, to_z, of_z, to_z-of_z}
use Rattle.std.specs.Int.{w128}
use Rattle.std.proofs.lemmas.Int.{ints}
use Rattle.log_laws.specs.Whole.{floor_over, ceil_over}
use Rattle.log_laws.proofs.Exports.{back}
use Rattle.case_types.specs.Arithmetic.Bounds.{Box, attraction_low, attraction_high}
use Rattle.case_types.specs.Arithmetic.Numbers.{numbers_of}
use Rattle.slope_form.proofs.Exports.{capped_from}
use Rattle.tangent_bound.proofs.slope_attractions.lifted_range.Goals as goal

small : (z : ℤ) → pos 0 ≤ℤ z → z ≤ℤ pos (2 ^ 66) → unsigned_abs (to_z w128 (of_z w128 z)) < 2 ^ 124
small z low high =
    let fits : unsigned_abs z < 2 ^ 124 = omega (arith, ints, low, high) in
    rw (back z (omega (arith, fits))) fits

pub outward-lo-requires-clause-least_small : goal.outward-lo-requires-clause-least_small
outward-lo-requires-clause-least_small c = let range = c.attraction_range-low in small range.result.0 range.ensures.low_positive range.ensures.low_small

pub outward-lo-requires-clause-greatest_small : goal.outward-lo-requires-clause-greatest_small
outward-lo-requires-clause-greatest_small c = let range = c.attraction_range-low in small range.result.0 range.ensures.low_positive range.ensures.low_small

pub outward-hi-requires-clause-least_small : goal.outward-hi-requires-clause-least_small
outward-hi-requires-clause-least_small c = let range = c.attraction_range-low in small range.result.1 range.ensures.high_positive range.ensures.high_small

pub outward-hi-requires-clause-greatest_small : goal.outward-hi-requires-clause-greatest_small
outward-hi-requires-clause-greatest_small c = let range = c.attraction_range-low in small range.result.1 range.ensures.high_positive range.ensures.high_small

pub returns : goal.returns
returns c = λ r are.
    let p = numbers_of c.args.params.now.case in
    let range = c.attraction_range-low in
    let low = rw (back range.result.0 (omega (arith, ints, range.ensures.low_positive, range.ensures.low_small)), range.ensures.low) at c.outward-lo.ensures.lo in
    let high = rw (back range.result.1 (omega (arith, ints, range.ensures.high_positive, range.ensures.high_small)), range.ensures.high) at c.outward-hi.ensures.hi in
    let lo : SFits w128 c.outward-lo.result.0 = search rules in
    let hi : SFits w128 c.outward-hi.result.1 = search rules in
    capped_from _ _ _ _ c.cap.result
    (to_z-of_z lo ∙ low ∙ ap (λ (x : Box). floor_over (attraction_low p x) 512) are.ends)
    (to_z-of_z hi ∙ high ∙ ap (λ (x : Box). ceil_over (attraction_high p x) 512) are.ends) c.cap.ensures.some c.cap.ensures.ends
