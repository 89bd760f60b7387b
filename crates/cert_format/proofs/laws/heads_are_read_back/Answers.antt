use Rattle.cert_format.proofs.ReadBack.{heads_are_read_back}
use Rattle.cert_format.proofs.laws.heads_are_read_back.Goals as goal

pub returns : goal.returns
returns c = heads_are_read_back
