use Rattle.std.proofs.Common.{◌∙◌, ap, Some}
use Rattle.cert_format.specs.declared.verdicts.Verdict.{Verdict}
use Rattle.cert_check.proofs.streams.check_stream.Goals as goal

pub returns-in-Some-clause-last_take : goal.returns-in-Some-clause-last_take
returns-in-Some-clause-last_take g c = λ e. absurd (c.judged.ensures.no_fault (c.in-Some.is ∙ ap (λ (v : Verdict). Some v) e))
