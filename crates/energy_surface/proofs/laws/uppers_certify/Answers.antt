use Rattle.energy_surface.proofs.Certify.{uppers_certify}
use Rattle.energy_surface.proofs.laws.uppers_certify.Goals as goal

pub returns : goal.returns
returns c = uppers_certify
