use Rattle.std.proofs.Common.{refl}
use Rattle.log_laws.specs.Sums.{list_below}
use Rattle.candidate_split.specs.Grid.{floor_fractions}
use Rattle.candidate_split.proofs.grid.rounded_down.Goals as goal

pub returns : goal.returns
unfolding floor_fractions list_below
returns c = rw (c.fraction.ensures, c.fraction-2.ensures, c.fraction-3.ensures, c.fraction-4.ensures) refl
