use Rattle.case_types.specs.Arithmetic.Numbers.{numbers_of}
use Rattle.pr_params.proofs.Exports.{count_of}
use Rattle.slope_form.specs.Arithmetic.{ends_if}
use Rattle.slope_form.specs.Forms.{form_if}
use Rattle.tangent_bound.specs.SlopeLows.{attraction_form, attraction_number, pair_at_centre, sum_of_all}
use Rattle.tangent_bound.proofs.MixForms.{sum_by, form_by}
use Rattle.tangent_bound.proofs.slope_attractions.attraction_form.Goals as goal

pub returns : goal.returns
unfolding attraction_form
returns c = λ r are.
    let case = c.args.params.now.case in
    let p = numbers_of case in
    let at = sum_by case.n p.count _ _ _ _ (λ i. sum_of_all p.count (pair_at_centre p r i)) (ends_if c.sum_of_all.result) case.few (count_of case) c.sum_of_all.ensures
    (λ l. c.row_in_middle.ensures r are l) (λ l. c.row_in_middle-2.ensures r are l) (λ l. c.row_in_middle-3.ensures r are l) (λ l. c.row_in_middle-4.ensures r are l) in
    form_by case.n p.count _ _ _ _ _ _ _ _ (attraction_number p r) (form_if c.mix_form.result) case.some case.few (count_of case) c.mix_form.ensures at (c.lifted_range.ensures r are)
    (λ l. c.number.ensures r are l) (λ l. c.number-2.ensures r are l) (λ l. c.number-3.ensures r are l) (λ l. c.number-4.ensures r are l)
