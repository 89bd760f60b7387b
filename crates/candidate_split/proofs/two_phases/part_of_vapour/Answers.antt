use Rattle.candidate_split.proofs.FeedParts.{fraction_small}
use Rattle.candidate_split.proofs.two_phases.part_of_vapour.Goals as goal

pub product-requires-clause-fraction : goal.product-requires-clause-fraction
product-requires-clause-fraction c = fraction_small c.args.case.now.n c.args.i c.args.y.now c.requires.composition
