use Rattle.energy_surface.proofs.WorkLaws.{closed_is_near}
use Rattle.energy_surface.proofs.laws.closed_is_near.Goals as goal

pub returns : goal.returns
returns c = closed_is_near
