use Rattle.cert_letters.proofs.Searched.{searches_write_trees}
use Rattle.cert_letters.proofs.laws.searches_write_trees.Goals as goal

pub returns : goal.returns
returns c = searches_write_trees
