use Rattle.std.proofs.Common.{ℕ, Option, Some, ◌∙◌, ap₂, arith}
use Rattle.log_laws.specs.Between.{Ends}
use Rattle.case_types.specs.Arithmetic.Numbers.{numbers_of}
use Rattle.case_types.specs.Arithmetic.Tables.{ends_at}
use Rattle.pr_params.proofs.Exports.{count_of}
use Rattle.slope_form.specs.Arithmetic.{ends_if, both, product_of_ends}
use Rattle.slope_form.specs.Forms.{form_if, point_ends}
use Rattle.tangent_bound.specs.SlopeLows.{centre, covolume_form, outward}
use Rattle.tangent_bound.specs.SlopeParts.{entry}
use Rattle.tangent_bound.proofs.MixForms.{sum_of, form_by, four_entries}
use Rattle.tangent_bound.proofs.slope_means.covolume_form.Goals as goal

pub returns : goal.returns
unfolding covolume_form
returns c = λ r are.
    let case = c.args.params.now.case in
    let p = numbers_of case in
    let b : ℕ → Option Ends = λ i. Some (outward c.args.shift (ends_at p.covolumes i)) in
    let number = four_entries case.n _ _ _ _ b case.few c.covolume.ensures c.covolume-2.ensures c.covolume-3.ensures c.covolume-4.ensures in
    let at = sum_of case.n p.count (entry c.in_middle.result) (λ i. both product_of_ends (Some (point_ends (centre p.count r i))) (b i)) (ends_if c.sum_of_all-at.result) (count_of case) c.sum_of_all-at.ensures
    (λ i l. c.in_middle.ensures i (omega (arith, l, case.few))
    ∙ ap₂ (λ (m : ℕ) (v : Option Ends). both product_of_ends (Some (point_ends m)) v) (are.middle i (omega (arith, l, case.few))) (number i l)) in
    form_by case.n p.count _ _ _ _ _ _ _ _ b (form_if c.mix_form.result) case.some case.few (count_of case) c.mix_form.ensures at (c.covolume_range.ensures r are)
    c.covolume.ensures c.covolume-2.ensures c.covolume-3.ensures c.covolume-4.ensures
