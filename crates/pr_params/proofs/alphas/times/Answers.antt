use Rattle.pr_params.proofs.Alpha.{times_read, times_small}
use Rattle.pr_params.proofs.alphas.times.Goals as goal

pub returns-clause-value : goal.returns-clause-value
returns-clause-value c = times_read c.args.number c.args.w c.requires.number c.requires.w

pub returns-clause-small : goal.returns-clause-small
returns-clause-small c = times_small c.args.number c.args.w c.requires.number c.requires.w
