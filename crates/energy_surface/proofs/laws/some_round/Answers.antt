use Rattle.energy_surface.proofs.WorkLaws.{some_round}
use Rattle.energy_surface.proofs.laws.some_round.Goals as goal

pub returns : goal.returns
returns c = some_round
