use Rattle.cert_letters.proofs.Lines.{line_takes}
use Rattle.cert_letters.proofs.laws.lines_are_trees.Goals as goal

pub returns : goal.returns
returns c = line_takes
