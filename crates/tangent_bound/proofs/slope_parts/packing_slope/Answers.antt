use Rattle.std.proofs.Common.{◌∙◌, Some, ap, ap₂, sym, inl, inr}
use Rattle.log_laws.specs.Between.{Ends}
use Rattle.case_types.specs.Arithmetic.Numbers.{numbers_of}
use Rattle.slope_form.specs.Forms.{Form}
use Rattle.tangent_bound.specs.SlopeLows.{packing_form, log_of_form, lambda_form, minus}
use Rattle.tangent_bound.specs.SlopeParts.{IsPackingSlope}
use Rattle.tangent_bound.proofs.SlopeEntries.{log_e_is}
use Rattle.tangent_bound.proofs.SlopeLacks.{none_without_packing}
use Rattle.tangent_bound.proofs.SlopeKept.{packing_of_forms, packing_kept, if_none, if_none_by, if_some}
use Rattle.tangent_bound.proofs.slope_parts.packing_slope.Goals as goal

pub returns-in_err-log_packing-clause-none : goal.returns-in_err-log_packing-clause-none
returns-in_err-log_packing-clause-none c =
    if_none c.from_residual.result _ (λ case lam r a b.
    let p = numbers_of case in
    let y = c.packing_form-y.ensures ∙ ap₂ packing_form (sym a) (sym b) in
    none_without_packing p lam r (inl (sym (c.in_err-log_packing.ensures ∙ ap₂ (λ (e : Ends) (f : Form). log_of_form e (Some f)) (c.log2e.ensures.ends ∙ log_e_is case) y))))

pub returns-in_err-log_rest-clause-none : goal.returns-in_err-log_rest-clause-none
returns-in_err-log_rest-clause-none c =
    if_none c.from_residual-in_err-log_rest.result _ (λ case lam r a b.
    let p = numbers_of case in
    let y = c.packing_form-y.ensures ∙ ap₂ packing_form (sym a) (sym b) in
    let rest = c.minus.ensures ∙ ap₂ (λ (u v : Form). minus (Some u) (Some v)) c.constant.ensures.value y in
    none_without_packing p lam r (inr (inl (sym (c.in_err-log_rest.ensures ∙ ap₂ log_of_form (c.log2e-2.ensures.ends ∙ log_e_is case) rest)))))

pub returns-clause-none : goal.returns-clause-none
returns-clause-none c =
    if_none_by c.packing_of.result _ _ (λ h case lam r a b.
    let p = numbers_of case in
    let y = c.packing_form-y.ensures ∙ ap₂ packing_form (sym a) (sym b) in
    none_without_packing p lam r (inr (inr (sym (ap (λ (f : Form). lambda_form p (Some f)) y) ∙ sym (c.lambda.ensures case) ∙ h)))) c.packing_of.ensures.none

pub returns-clause-some : goal.returns-clause-some
returns-clause-some c =
    if_some c.packing_of.result (λ s. (case : _) → IsPackingSlope (numbers_of case) c.args.from c.args.to s) (λ s e case.
    let p = numbers_of case in
    let y = c.packing_form-y.ensures in
    let rest = c.minus.ensures ∙ ap₂ (λ (u v : Form). minus (Some u) (Some v)) c.constant.ensures.value y in
    packing_kept p c.args.from c.args.to c.packing_of.result s _ c.around.result e c.packing_of.ensures.some c.packing_of.ensures.step
    (packing_of_forms _ _ _ _ _ _ _ _ (sym y)
    (sym (c.in_ok-log_packing.ensures ∙ ap₂ (λ (e : Ends) (f : Form). log_of_form e (Some f)) (c.log2e.ensures.ends ∙ log_e_is case) y))
    (sym (c.in_ok-log_rest.ensures ∙ ap₂ log_of_form (c.log2e-2.ensures.ends ∙ log_e_is case) rest))
    (sym (c.lambda.ensures case ∙ ap (λ (f : Form). lambda_form p (Some f)) y)))
    c.around.ensures)
