use Rattle.std.proofs.Common.{refl}
use Rattle.log_laws.specs.Sums.{list_below}
use Rattle.density_boxes.proofs.Halvings.{root_halvings}
use Rattle.density_boxes.proofs.boxes.root.Goals as goal

pub returns-clause-whole : goal.returns-clause-whole
unfolding list_below
returns-clause-whole c = rw (c.root_end.ensures, c.root_end-2.ensures, c.root_end-3.ensures) refl

pub returns-clause-halvings : goal.returns-clause-halvings
returns-clause-halvings c = rw (returns-clause-whole c) (root_halvings c.args.n c.requires.one c.requires.four)
