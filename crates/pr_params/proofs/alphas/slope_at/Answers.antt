use Rattle.pr_params.proofs.Alpha.{slope_small, slope_read}
use Rattle.pr_params.proofs.alphas.slope_at.Goals as goal

pub returns-clause-small : goal.returns-clause-small
returns-clause-small c =
    rw (slope_read c.args.kappa c.args.root c.requires.kappa c.requires.root_low c.requires.root_high)
    (slope_small c.args.kappa c.args.root c.requires.kappa c.requires.root_low c.requires.root_high)
