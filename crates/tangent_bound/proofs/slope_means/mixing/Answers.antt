use Rattle.std.proofs.Common.{slice_index, ap, ◌∙◌}
use Rattle.log_laws.specs.Interval.{ends_of}
use Rattle.case_types.specs.Arithmetic.Bounds.{Box}
use Rattle.case_types.specs.Arithmetic.Numbers.{numbers_of}
use Rattle.case_types.specs.Grid.Cells.{box_of_region}
use Rattle.tangent_bound.specs.SlopeLows.{centre}
use Rattle.tangent_bound.proofs.SlopeEntries.{x_log_x-same, log_e_is}
use Rattle.tangent_bound.proofs.slope_means.mixing.Goals as goal

pub returns : goal.returns
returns c = λ r live are.
    let p = numbers_of c.args.params.now.case in
    let i = c.args.i in
    c.xlogx.ensures.value
    ∙ x_log_x-same c.fraction_lo-a.result c.fraction_hi-b.result c.middle_of.result (slice_index (box_of_region p.count r).lo i) (slice_index (box_of_region p.count r).hi i) (centre p.count r i)
    (ends_of c.log2e.result) p.log_e
    (c.fraction_lo-a.ensures.value ∙ ap (λ (b : Box). slice_index b.lo i) are.ends)
    (c.fraction_hi-b.ensures.value ∙ ap (λ (b : Box). slice_index b.hi i) are.ends)
    (c.middle_of.ensures.value ∙ are.middle i c.requires)
    (c.log2e.ensures.ends ∙ log_e_is c.args.params.now.case)
