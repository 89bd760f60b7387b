use Rattle.std.proofs.Common.{◌∙◌, ap, arith}
use Rattle.std.proofs.lemmas.Int.{ints}
use Rattle.log_laws.specs.Between.{Ends}
use Rattle.log_laws.proofs.Exports.{back}
use Rattle.case_types.specs.Arithmetic.Numbers.{numbers_of}
use Rattle.case_types.specs.Arithmetic.Bounds.{box_of}
use Rattle.pr_params.proofs.MeansHold.{means_hold, ratio_high_from}
use Rattle.pr_params.proofs.ranges.g_hi.Goals as goal

pub returns-clause-value : goal.returns-clause-value
returns-clause-value c =
    let p = c.args.params.now in
    let x = box_of c.args.x.now in
    let v = c.b_range.result in
    let small = v.lo_small in
    let low = c.attraction.ensures.low in
    let high = c.attraction.ensures.high in
    let from = c.ratio_up-ratio.ensures.low in
    let to = c.ratio_up-ratio.ensures.high in
    let least = c.greatest_of.ensures.low in
    let most = c.greatest_of.ensures.high in
    let size = c.lesser.ensures.small in
    let ratio = rw (back c.attraction.result (omega (arith, ints, low, high)), back v.lo (omega (arith, small)), c.attraction.ensures.value, ap (λ (e : Ends). e.lo) c.b_range.ensures.ends) at c.ratio_up-ratio.ensures.value in
    let value = rw (back c.ratio_up-ratio.result (omega (arith, ints, from, to)), back c.greatest_of.result (omega (arith, ints, least, most)), ratio, c.greatest_of.ensures.value) at c.lesser.ensures.value in
    back c.lesser.result (omega (arith, size)) ∙ value ∙ ratio_high_from (numbers_of p.case) x

pub returns-clause-at_most : goal.returns-clause-at_most
returns-clause-at_most c = λ i f instance inside some.
    rw (returns-clause-value c) (means_hold c.args.params.now.case i (box_of c.args.x.now) f c.args.params.now.accepted instance inside some).ratio_high
