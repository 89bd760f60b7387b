use Rattle.std.proofs.Common.{refl}
use Rattle.log_laws.specs.Sums.{list_below}
use Rattle.density_boxes.proofs.boxes.in_packing_units.Goals as goal

pub returns : goal.returns
unfolding list_below
returns c = refl
