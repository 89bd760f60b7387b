use Rattle.cert_format.proofs.LastLetters.{answers_write_trees}
use Rattle.cert_format.proofs.laws.answers_write_trees.Goals as goal

pub returns : goal.returns
returns c = answers_write_trees
