use Rattle.std.proofs.Common.{◌∙◌, ap, refl}
use Rattle.std.specs.Option.{option_map}
use Rattle.case_types.specs.Arithmetic.Numbers.{numbers_of}
use Rattle.log_laws.specs.Between.{Ends}
use Rattle.pr_params.proofs.Exports.{count_of}
use Rattle.slope_form.specs.Arithmetic.{ends_if}
use Rattle.slope_form.specs.Forms.{form_if}
use Rattle.tangent_bound.specs.SlopeLows.{mixing_form, mixing_ends}
use Rattle.tangent_bound.proofs.MixForms.{sum_by, form_by}
use Rattle.tangent_bound.proofs.slope_means.mixing_form.Goals as goal

pub returns : goal.returns
unfolding mixing_form
returns c = λ r are.
    let case = c.args.params.now.case in
    let p = numbers_of case in
    let value : Ends × Ends → Ends = λ m. m.0 in
    let slope : Ends × Ends → Ends = λ m. m.1 in
    let at = sum_by case.n p.count _ _ _ _ (λ i. option_map value (mixing_ends p r i)) (ends_if c.sum_of_all.result) case.few (count_of case) c.sum_of_all.ensures
    (λ l. c.value_of.ensures ∙ ap (option_map value) (c.mixing-first.ensures r l are)) (λ l. c.value_of-2.ensures ∙ ap (option_map value) (c.mixing-second.ensures r l are))
    (λ l. c.value_of-3.ensures ∙ ap (option_map value) (c.mixing-third.ensures r l are)) (λ l. c.value_of-4.ensures ∙ ap (option_map value) (c.mixing-fourth.ensures r l are)) in
    form_by case.n p.count _ _ _ _ _ _ _ _ (λ i. option_map slope (mixing_ends p r i)) (form_if c.mix_form.result) case.some case.few (count_of case) c.mix_form.ensures at refl
    (λ l. c.slope_of.ensures ∙ ap (option_map slope) (c.mixing-first.ensures r l are)) (λ l. c.slope_of-2.ensures ∙ ap (option_map slope) (c.mixing-second.ensures r l are))
    (λ l. c.slope_of-3.ensures ∙ ap (option_map slope) (c.mixing-third.ensures r l are)) (λ l. c.slope_of-4.ensures ∙ ap (option_map slope) (c.mixing-fourth.ensures r l are))
