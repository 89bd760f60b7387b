use Rattle.std.proofs.Common.{◌∙◌, ap, arith}
use Rattle.std.proofs.lemmas.Int.{ints}
use Rattle.log_laws.specs.Between.{Ends}
use Rattle.log_laws.proofs.Exports.{back}
use Rattle.case_types.specs.Arithmetic.Numbers.{numbers_of}
use Rattle.case_types.specs.Arithmetic.Bounds.{box_of}
use Rattle.pr_params.proofs.MeansHold.{means_hold, ratio_low_from, ratio_low_most}
use Rattle.pr_params.proofs.ranges.g_lo.Goals as goal

pub returns-clause-value : goal.returns-clause-value
returns-clause-value c =
    let p = c.args.params.now in
    let x = box_of c.args.x.now in
    let v = c.b_range.result in
    let small = v.hi_small in
    let low = c.attraction.ensures.low in
    let high = c.attraction.ensures.high in
    let from = c.ratio_down.ensures.low in
    let to = c.ratio_down.ensures.high in
    let value = rw (back c.attraction.result (omega (arith, ints, low, high)), back v.hi (omega (arith, small)), c.attraction.ensures.value, ap (λ (e : Ends). e.hi) c.b_range.ensures.ends) at c.ratio_down.ensures.value in
    back c.ratio_down.result (omega (arith, ints, from, to)) ∙ value ∙ ratio_low_from (numbers_of p.case) x

pub returns-clause-high : goal.returns-clause-high
returns-clause-high c = rw (returns-clause-value c) (ratio_low_most c.args.params.now c.args.x.now)

pub returns-clause-at_least : goal.returns-clause-at_least
returns-clause-at_least c = λ i f instance inside some.
    rw (returns-clause-value c) (means_hold c.args.params.now.case i (box_of c.args.x.now) f c.args.params.now.accepted instance inside some).ratio_low
