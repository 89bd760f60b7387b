use Rattle.std.proofs.Common.{sym, ◌∙◌, refl, arith}
use Rattle.log_laws.proofs.Exports.{back}
use Rattle.log_enclose.proofs.Logs.{log_down_is}
use Rattle.log_enclose.proofs.Bounds.{log_down_at_least, log_down_power_low, log_down_power_high, small_fits}
use Rattle.log_enclose.proofs.ends.log2_lo.Goals as goal

pub returns-clause-value : goal.returns-clause-value
returns-clause-value c =
    let small = small_fits c.joined.result c.joined.ensures.small in
    back c.joined.result (omega (arith, small)) ∙ c.joined.ensures.value
    ∙ (rw (c.log2_down.ensures.value, c.parts_of-exponent.ensures.exponent, c.parts_of-exponent.ensures.mantissa) refl)
    ∙ sym (log_down_is c.args.n c.args.scale)

pub returns-clause-at_least : goal.returns-clause-at_least
returns-clause-at_least c = rw (returns-clause-value c) (log_down_at_least c.args.n c.args.scale c.requires.positive c.requires.below)

pub returns-clause-from_power : goal.returns-clause-from_power
returns-clause-from_power c k h =
    rw (returns-clause-value c) (log_down_power_low c.args.n c.args.scale k c.requires.positive c.requires.below h)

pub returns-clause-to_power : goal.returns-clause-to_power
returns-clause-to_power c k h =
    rw (returns-clause-value c) (log_down_power_high c.args.n c.args.scale k c.requires.positive c.requires.below h)
