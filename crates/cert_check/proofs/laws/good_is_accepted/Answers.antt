use Rattle.cert_check.proofs.Converse.{good_is_accepted}
use Rattle.cert_check.proofs.laws.good_is_accepted.Goals as goal

pub returns : goal.returns
returns c = good_is_accepted
