use Rattle.cert_format.proofs.ReadBack.{texts_say_one_thing}
use Rattle.cert_format.proofs.laws.texts_say_one_thing.Goals as goal

pub returns : goal.returns
returns c = texts_say_one_thing
