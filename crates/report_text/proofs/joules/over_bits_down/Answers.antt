use Rattle.std.proofs.Common.{sym, lit<}
use Rattle.log_laws.proofs.Exports.{scaled_quotient}
use Rattle.report_text.specs.declared.joules.TheConstants.{DIVISOR}
use Rattle.report_text.proofs.joules.over_bits_down.Goals as goal

pub returns-clause-value : goal.returns-clause-value
returns-clause-value c = sym (scaled_quotient c.args.n DIVISOR c.args.heat (lit< tt))
