use Rattle.std.proofs.Common.{refl}
use Rattle.log_laws.specs.Sums.{list_below}
use Rattle.density_boxes.proofs.fractions.composition.Goals as goal

pub returns : goal.returns
unfolding list_below
returns c = rw (c.fraction.ensures, c.fraction-2.ensures, c.fraction-3.ensures, c.fraction-4.ensures) refl
