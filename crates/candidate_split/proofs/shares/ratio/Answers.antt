use Rattle.candidate_split.proofs.FeedParts.{fraction_small}
use Rattle.candidate_split.proofs.shares.ratio.Goals as goal

pub quotient-requires-clause-first : goal.quotient-requires-clause-first
quotient-requires-clause-first c = fraction_small c.args.case.now.n c.args.i c.args.first.now.comp c.requires.first

pub quotient-requires-clause-second : goal.quotient-requires-clause-second
quotient-requires-clause-second c = fraction_small c.args.case.now.n c.args.i c.args.second.now.comp c.requires.second
