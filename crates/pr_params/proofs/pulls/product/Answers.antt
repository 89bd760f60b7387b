use Rattle.std.proofs.Common.{◌^◌, lit<}
use Rattle.pr_params.proofs.pulls.product.Goals as goal
use Rattle.log_laws.proofs.Exports.{product_at_most, product_read}

pub returns-clause-value : goal.returns-clause-value
returns-clause-value c = product_read c.args.ratio c.args.log (2 ^ 47) (2 ^ 42) c.requires.ratio c.requires.log (lit< tt) (lit< tt) (lit< tt)

pub returns-clause-small : goal.returns-clause-small
returns-clause-small c = rw (returns-clause-value c) (product_at_most c.args.ratio c.args.log (2 ^ 47) (2 ^ 42) c.requires.ratio c.requires.log)
