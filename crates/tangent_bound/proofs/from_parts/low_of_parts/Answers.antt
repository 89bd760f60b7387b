use Rattle.std.proofs.Common.{◌≡◌, ◌∙◌, ◌≤◌, ◌-◌, arith}
use Rattle.log_laws.specs.Squaring.{log_up}
use Rattle.log_laws.proofs.Exports.{back}
use Rattle.case_types.specs.Arithmetic.Bounds.{one, ratio_high, attraction_term_high}
use Rattle.case_types.specs.Arithmetic.Numbers.{numbers_of}
use Rattle.pr_params.proofs.Exports.{log_some}
use Rattle.tangent_bound.proofs.Terms.{energy_low_is}
use Rattle.tangent_bound.proofs.from_parts.low_of_parts.Goals as goal

pub returns-clause-value : goal.returns-clause-value
returns-clause-value c = λ x yl yh of from to.
    let p = numbers_of c.args.params.now.case in
    let mix = c.args.mix.now in
    let start = c.args.from.now in
    let v = c.volume.ensures.small in
    let q = c.attraction_term_high.ensures.small in
    let s = c.energy_of_terms.ensures.small in
    let some : 1 ≤ one - yl = (let e = from.packing in let r = c.requires.room in omega (arith, e, r)) in
    let attraction : c.attraction_term_high.result ≡ attraction_term_high p (ratio_high p x) yh =
    rw (back mix.ratio (omega (arith, mix.ratio_small)), of.ratio) at (c.attraction_term_high.ensures.value c.args.params.now.case yh to) in
    let sum = rw (
      back mix.mixing (omega (arith, mix.mixing_small)),
      back c.volume.result (omega (arith, v)),
      back mix.log_covolume (omega (arith, mix.log_small)),
      back start.rest_high (omega (arith, start.rest_high_small)),
      back c.attraction_term_high.result (omega (arith, q)),
    ) at c.energy_of_terms.ensures.value in
    back c.energy_of_terms.result (omega (arith, s)) ∙ sum
    ∙ energy_low_is p x yl yh mix.mixing c.volume.result mix.log_covolume start.rest_high c.attraction_term_high.result
    of.mixing (c.volume.ensures.value x yl yh of from to) of.log_covolume (from.rest_high ∙ log_some log_up (one - yl) some) attraction
