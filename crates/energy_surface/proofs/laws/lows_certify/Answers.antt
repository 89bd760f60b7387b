use Rattle.energy_surface.proofs.Certify.{lows_certify}
use Rattle.energy_surface.proofs.laws.lows_certify.Goals as goal

pub returns : goal.returns
returns c = lows_certify
