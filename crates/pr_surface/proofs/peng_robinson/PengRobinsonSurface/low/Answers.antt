use Rattle.std.proofs.Common.{◌∙◌, arith}
use Rattle.log_laws.proofs.Exports.{back}
use Rattle.pr_surface.proofs.peng_robinson.PengRobinsonSurface.low.Goals as goal

pub returns-clause-value : goal.returns-clause-value
returns-clause-value c = λ x yl yh of from to. back c.low_of_parts.result (omega (arith, c.low_of_parts.ensures.small)) ∙ c.low_of_parts.ensures.value x yl yh of from to
