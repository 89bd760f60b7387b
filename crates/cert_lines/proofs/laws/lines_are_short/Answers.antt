use Rattle.cert_lines.proofs.OneLine.{lines_are_short}
use Rattle.cert_lines.proofs.laws.lines_are_short.Goals as goal

pub returns : goal.returns
returns c = lines_are_short
