use Rattle.cert_lines.proofs.Shapes.{lines_fit}
use Rattle.cert_lines.proofs.laws.lines_fit.Goals as goal

pub returns : goal.returns
returns c = lines_fit
