use Rattle.std.proofs.Common.{refl}
use Rattle.cert_lines.specs.HeadTexts.{head_end}
use Rattle.cert_check.proofs.checker.Checker.end.Goals as goal

pub returns-in-None : goal.returns-in-None
unfolding head_end
returns-in-None c = rw (← c.self.view_is, c.in-None.is) refl
