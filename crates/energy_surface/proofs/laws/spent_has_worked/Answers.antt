use Rattle.energy_surface.proofs.WorkLaws.{spent_has_worked}
use Rattle.energy_surface.proofs.laws.spent_has_worked.Goals as goal

pub returns : goal.returns
returns c = spent_has_worked
