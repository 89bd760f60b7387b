use Rattle.cert_lines.proofs.WholeHead.{heads_are_read}
use Rattle.cert_lines.proofs.laws.heads_are_read.Goals as goal

pub returns : goal.returns
returns c = heads_are_read
