use Rattle.std.proofs.Common.{rules, refl, ◌∙◌, SFits, to_z-of_z, sym}
use Rattle.std.specs.Int.{w128}
use Rattle.log_laws.specs.Interval.{ends_of}
use Rattle.slope_form.specs.Arithmetic.{product_of_ends}
use Rattle.slope_form.proofs.Capped.{capped_from}
use Rattle.slope_form.proofs.Zeros.{product_of_zero, product_by_zero}
use Rattle.slope_form.proofs.arithmetic.product.Goals.{then-is_zero-via-then-is_zero, then-is_zero-via-else-is_zero+then-is_zero-2}
use Rattle.slope_form.proofs.arithmetic.product.Goals as goal

pub returns-then-is_zero : goal.returns-then-is_zero
returns-then-is_zero c =
    let a = ends_of c.args.a in
    let b = ends_of c.args.b in
    elim c.then-is_zero.branch [
      | then-is_zero-via-then-is_zero w ↦ let z = w.if-is_zero.ensures.0 refl in sym (product_of_zero a b z.0 z.1)
      | then-is_zero-via-else-is_zero+then-is_zero-2 w ↦ let z = w.if-is_zero-2.ensures.0 refl in sym (product_by_zero a b z.0 z.1)
    ]

pub returns : goal.returns
unfolding product_of_ends
returns c =
    let p = c.mul_ends-lo in
    let lo : SFits w128 p.result.0 = search rules in
    let hi : SFits w128 p.result.1 = search rules in
    capped_from _ _ _ _ c.cap.result (to_z-of_z lo ∙ p.ensures.lo) (to_z-of_z hi ∙ p.ensures.hi) c.cap.ensures.some c.cap.ensures.ends
