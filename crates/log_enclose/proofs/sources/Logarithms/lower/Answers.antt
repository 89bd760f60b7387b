use Rattle.std.proofs.Common.{sym, ◌∙◌, refl, arith}
use Rattle.log_laws.proofs.Exports.{back}
use Rattle.log_enclose.proofs.Logs.{log_down_is}
use Rattle.log_enclose.proofs.Bounds.{log_down_power_low, log_down_power_high, small_fits}
use Rattle.log_enclose.proofs.sources.Logarithms.lower.Goals as goal

pub returns-in-Kept-clause-value : goal.returns-in-Kept-clause-value
returns-in-Kept-clause-value c =
    let small = small_fits c.joined.result c.joined.ensures.small in
    back c.joined.result (omega (arith, small)) ∙ c.joined.ensures.value
    ∙ (rw (c.ends_of.ensures.lower, c.parts_of-exponent.ensures.exponent, c.parts_of-exponent.ensures.mantissa) refl)
    ∙ sym (log_down_is c.args.n c.args.scale)

pub returns-in-Kept-clause-from_power : goal.returns-in-Kept-clause-from_power
returns-in-Kept-clause-from_power c k h =
    rw (returns-in-Kept-clause-value c) (log_down_power_low c.args.n c.args.scale k c.requires.positive c.requires.below h)

pub returns-in-Kept-clause-to_power : goal.returns-in-Kept-clause-to_power
returns-in-Kept-clause-to_power c k h =
    rw (returns-in-Kept-clause-value c) (log_down_power_high c.args.n c.args.scale k c.requires.positive c.requires.below h)
