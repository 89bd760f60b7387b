use Rattle.std.proofs.Common.{sym, ◌∙◌, refl, arith}
use Rattle.log_laws.proofs.Exports.{back}
use Rattle.log_enclose.proofs.Logs.{log_down_is, log_up_is}
use Rattle.log_enclose.proofs.Bounds.{small_fits}
use Rattle.log_enclose.proofs.ends.log2_ends.Goals as goal

pub returns-clause-low : goal.returns-clause-low
returns-clause-low c =
    let small = small_fits c.joined.result c.joined.ensures.small in
    back c.joined.result (omega (arith, small)) ∙ c.joined.ensures.value
    ∙ (rw (c.log2_both-low_digits.ensures.low, c.parts_of-low_exponent.ensures.exponent, c.parts_of-low_exponent.ensures.mantissa) refl)
    ∙ sym (log_down_is c.args.low c.args.scale)

pub returns-clause-high : goal.returns-clause-high
returns-clause-high c =
    let small = small_fits c.joined-2.result c.joined-2.ensures.small in
    back c.joined-2.result (omega (arith, small)) ∙ c.joined-2.ensures.value
    ∙ (rw (c.log2_both-low_digits.ensures.high, c.parts_of-high_exponent.ensures.exponent, c.parts_of-high_exponent.ensures.mantissa) refl)
    ∙ sym (log_up_is c.args.high c.args.scale)
