use Rattle.energy_surface.proofs.WorkLaws.{planes_fall}
use Rattle.energy_surface.proofs.laws.planes_fall.Goals as goal

pub returns : goal.returns
returns c = planes_fall
