use Rattle.std.proofs.Common.{◌∙◌, arith}
use Rattle.log_laws.proofs.Exports.{back}
use Rattle.pr_surface.proofs.peng_robinson.PengRobinsonSurface.up.Goals as goal

pub returns-clause-value : goal.returns-clause-value
returns-clause-value c = λ x y of is. back c.up_of_parts.result (omega (arith, c.up_of_parts.ensures.small)) ∙ c.up_of_parts.ensures.value x y of is

pub returns-clause-at_half : goal.returns-clause-at_half
returns-clause-at_half c = λ x of is. rw (back c.up_of_parts.result (omega (arith, c.up_of_parts.ensures.small))) (c.up_of_parts.ensures.at_half x of is)

pub returns-clause-not_deep : goal.returns-clause-not_deep
returns-clause-not_deep c = λ x y of is. rw (back c.up_of_parts.result (omega (arith, c.up_of_parts.ensures.small))) (c.up_of_parts.ensures.not_deep y is)
