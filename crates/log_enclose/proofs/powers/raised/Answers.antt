use Rattle.log_enclose.proofs.Raised.{raised_fits, raised_low, raised_high, raised_exact}
use Rattle.log_enclose.proofs.powers.raised.Goals as goal

pub returns-clause-low : goal.returns-clause-low
returns-clause-low c = rw (raised_fits c.args.mantissa c.args.places c.requires.high c.requires.places) (raised_low c.args.mantissa c.args.places c.requires.low)

pub returns-clause-high : goal.returns-clause-high
returns-clause-high c = rw (raised_fits c.args.mantissa c.args.places c.requires.high c.requires.places) (raised_high c.args.mantissa c.args.places c.requires.high c.requires.places)

pub returns-clause-exact : goal.returns-clause-exact
returns-clause-exact c = rw (raised_fits c.args.mantissa c.args.places c.requires.high c.requires.places) (raised_exact c.args.mantissa c.args.places)
