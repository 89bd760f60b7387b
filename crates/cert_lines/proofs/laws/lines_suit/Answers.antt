use Rattle.cert_lines.proofs.Suiting.{lines_suit}
use Rattle.cert_lines.proofs.laws.lines_suit.Goals as goal

pub returns : goal.returns
returns c = lines_suit
