use Rattle.cert_lines.proofs.LinePlaces.{places_are_found}
use Rattle.cert_lines.proofs.laws.places_are_found.Goals as goal

pub returns : goal.returns
returns c = places_are_found
