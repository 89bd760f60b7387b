use Rattle.log_enclose.proofs.Logs.{lo_value, value_small}
use Rattle.log_enclose.proofs.ends.joined.Goals as goal

pub returns-clause-value : goal.returns-clause-value
returns-clause-value c = lo_value c.args.exponent c.args.scale c.args.digits c.requires.exponent c.requires.scaled c.requires.digits

pub returns-clause-small : goal.returns-clause-small
returns-clause-small c = value_small c.args.exponent c.args.scale c.args.digits _ c.requires.exponent c.requires.scaled c.requires.digits (returns-clause-value c)
