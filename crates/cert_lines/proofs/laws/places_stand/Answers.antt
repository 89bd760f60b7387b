use Rattle.cert_lines.proofs.Listed.{places_stand}
use Rattle.cert_lines.proofs.laws.places_stand.Goals as goal

pub returns : goal.returns
returns c = places_stand
