use Rattle.cert_check.proofs.Certifies.{good_certifies}
use Rattle.cert_check.proofs.laws.good_certifies.Goals as goal

pub returns : goal.returns
returns c = good_certifies
