use Rattle.std.proofs.Common.{rules, refl, ◌∙◌, false, SFits, to_z-of_z, true, sym}
use Rattle.std.specs.Int.{w128}
use Rattle.log_laws.specs.Interval.{ends_of}
use Rattle.slope_form.specs.Arithmetic.{quotient_of_ends}
use Rattle.slope_form.proofs.Capped.{capped_from, below_one}
use Rattle.slope_form.proofs.Zeros.{quotient_of_zero}
use Rattle.slope_form.proofs.arithmetic.quotient.Goals as goal

pub returns-then-b-lt1 : goal.returns-then-b-lt1
unfolding quotient_of_ends
returns-then-b-lt1 c = rw (below_one c.args.b.lo true c.args.b.lo_small c.if-b-lt1.true) refl

pub returns-then-is_zero : goal.returns-then-is_zero
returns-then-is_zero c =
    let z = c.if-is_zero.ensures.0 refl in
    sym (quotient_of_zero (ends_of c.args.a) (ends_of c.args.b) z.0 z.1 (below_one c.args.b.lo false c.args.b.lo_small c.if-b-lt1.false))

pub returns : goal.returns
unfolding quotient_of_ends
returns c =
    let p = c.div_ends-lo in
    let lo : SFits w128 p.result.0 = search rules in
    let hi : SFits w128 p.result.1 = search rules in
    rw (below_one c.args.b.lo false c.args.b.lo_small c.if-b-lt1.false)
    (capped_from _ _ _ _ c.cap.result (to_z-of_z lo ∙ p.ensures.lo) (to_z-of_z hi ∙ p.ensures.hi) c.cap.ensures.some c.cap.ensures.ends)
