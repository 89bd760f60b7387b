use Rattle.cert_format.proofs.ReadBack.{heads_say_one_thing}
use Rattle.cert_format.proofs.laws.heads_say_one_thing.Goals as goal

pub returns : goal.returns
returns c = heads_say_one_thing
