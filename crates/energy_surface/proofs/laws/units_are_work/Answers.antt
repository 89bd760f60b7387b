use Rattle.energy_surface.proofs.WorkLaws.{units_are_work}
use Rattle.energy_surface.proofs.laws.units_are_work.Goals as goal

pub returns : goal.returns
returns c = units_are_work
