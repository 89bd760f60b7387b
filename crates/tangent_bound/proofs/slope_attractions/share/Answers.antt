use Rattle.std.proofs.Common.{◌∙◌, ap₂}
use Rattle.log_laws.specs.Interval.{ends_of}
use Rattle.case_types.specs.Arithmetic.Numbers.{numbers_of}
use Rattle.slope_form.specs.Arithmetic.{both, product_of_ends, sum_of_ends}
use Rattle.tangent_bound.proofs.SlopeEntries.{middle_at, range_at}
use Rattle.tangent_bound.proofs.slope_attractions.share.Goals as goal

pub returns : goal.returns
returns c = λ r are hi hj.
    let n = (numbers_of c.args.params.now.case).count in
    let x = c.args.x.now in
    c.product_of_both.ensures
    ∙ ap₂ (both product_of_ends) (c.attraction.ensures hi hj)
    (c.sum-fractions.ensures ∙ ap₂ sum_of_ends (middle_at n r x (ends_of c.fraction.result) c.args.j are c.requires.second c.fraction.ensures)
    (range_at n r x (ends_of c.range.result) c.args.j are c.range.ensures))
