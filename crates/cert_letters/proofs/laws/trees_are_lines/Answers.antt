use Rattle.cert_letters.proofs.Lines.{tree_again}
use Rattle.cert_letters.proofs.laws.trees_are_lines.Goals as goal

pub returns : goal.returns
returns c = tree_again
