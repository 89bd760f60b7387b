use Rattle.std.proofs.Common.{◌≡◌, ◌∙◌, Some, ap, ap₂, sym}
use Rattle.log_laws.specs.Between.{Ends}
use Rattle.case_types.specs.Arithmetic.Bounds.{one}
use Rattle.case_types.specs.Arithmetic.Numbers.{numbers_of}
use Rattle.pr_params.proofs.Exports.{two_exact}
use Rattle.slope_form.specs.Forms.{form_of, constant_form, point_ends}
use Rattle.tangent_bound.specs.SlopeLows.{outward, plus, minus, times, log_of_form}
use Rattle.tangent_bound.proofs.SlopeEntries.{log_e_is}
use Rattle.tangent_bound.proofs.slope_parts.lambda.Goals as goal

pub returns : goal.returns
returns c = λ case.
    let p = numbers_of case in
    let y = Some (form_of c.args.y) in
    let one_is : form_of c.constant.result ≡ constant_form (point_ends one) = c.constant.ensures.value in
    let root_is : form_of c.constant-2.result ≡ constant_form (outward 20 p.root_two) = c.constant-2.ensures.value ∙ ap (λ (v : Ends). constant_form (outward 20 v)) (sym (two_exact case)) in
    let above = c.plus-above.ensures ∙ ap₂ plus (ap Some one_is) (c.times.ensures ∙ ap (λ f. times f y) (c.plus.ensures ∙ ap₂ plus (ap Some one_is) (ap Some root_is))) in
    let below = c.minus-below.ensures ∙ ap₂ minus (ap Some one_is) (c.times-2.ensures ∙ ap (λ f. times f y) (c.minus.ensures ∙ ap₂ minus (ap Some root_is) (ap Some one_is))) in
    c.minus-2.ensures
    ∙ ap₂ minus (c.log_by.ensures ∙ ap₂ log_of_form (c.log2e.ensures.ends ∙ log_e_is case) above) (c.log_by-2.ensures ∙ ap₂ log_of_form (c.log2e-2.ensures.ends ∙ log_e_is case) below)
