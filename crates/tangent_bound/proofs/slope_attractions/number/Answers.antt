use Rattle.case_types.specs.Arithmetic.Numbers.{numbers_of}
use Rattle.pr_params.proofs.Exports.{count_of}
use Rattle.slope_form.specs.Arithmetic.{ends_if}
use Rattle.tangent_bound.specs.SlopeLows.{share_of_attraction}
use Rattle.tangent_bound.proofs.MixForms.{sum_by}
use Rattle.tangent_bound.proofs.slope_attractions.number.Goals as goal

pub returns : goal.returns
returns c = λ r are live.
    let case = c.args.params.now.case in
    let p = numbers_of case in
    sum_by case.n p.count _ _ _ _ (share_of_attraction p r c.args.i) (ends_if c.sum_of_all.result) case.few (count_of case) c.sum_of_all.ensures
    (λ l. c.share.ensures r are live l) (λ l. c.share-2.ensures r are live l) (λ l. c.share-3.ensures r are live l) (λ l. c.share-4.ensures r are live l)
