use Rattle.energy_surface.proofs.WeakDuality.{weak_duality}
use Rattle.energy_surface.proofs.laws.weak_duality.Goals as goal

pub returns : goal.returns
returns c = weak_duality
