use Rattle.exact_lp.proofs.MachineNumbers.{read, cost_read, costly, costly_fits}
use Rattle.exact_lp.proofs.pricing.share.Goals as goal

pub overflow_mul-result : goal.overflow_mul-result
overflow_mul-result c =
    rw (read c.args.amount c.ranges.amount, cost_read c.args.cost c.requires.cost_small) (costly_fits c.args.amount c.args.cost c.requires.amount_small c.requires.cost_small)

pub returns-clause-value : goal.returns-clause-value
returns-clause-value c =
    rw (read c.args.amount c.ranges.amount, cost_read c.args.cost c.requires.cost_small) (read _ (costly_fits c.args.amount c.args.cost c.requires.amount_small c.requires.cost_small))

pub returns-clause-small : goal.returns-clause-small
returns-clause-small c =
    rw (read c.args.amount c.ranges.amount, cost_read c.args.cost c.requires.cost_small, read _ (costly_fits c.args.amount c.args.cost c.requires.amount_small c.requires.cost_small))
    (costly c.args.amount c.args.cost c.requires.amount_small c.requires.cost_small)
