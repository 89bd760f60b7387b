use Rattle.cert_lines.proofs.LinePlaces.{lines_are_found}
use Rattle.cert_lines.proofs.laws.lines_are_found.Goals as goal

pub returns : goal.returns
returns c = lines_are_found
