use Rattle.cubic_roots.proofs.Excess.{above_by_numbers}
use Rattle.cubic_roots.proofs.middles.Middles.is_above.Goals as goal

pub returns : goal.returns
returns c = above_by_numbers c.args.self.now c.args.y c.pull.result c.push.result c.pull.ensures.value c.push.ensures.value
