use Rattle.rachford_rice.proofs.Falling.{falls}
use Rattle.rachford_rice.proofs.sums.sum_never_rises.Goals as goal

pub returns : goal.returns
returns c = falls c.args.case.now c.args.k.now c.requires.ratios
