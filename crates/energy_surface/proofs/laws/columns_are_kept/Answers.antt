use Rattle.energy_surface.proofs.WorkLaws.{columns_are_kept}
use Rattle.energy_surface.proofs.laws.columns_are_kept.Goals as goal

pub returns : goal.returns
returns c = columns_are_kept
