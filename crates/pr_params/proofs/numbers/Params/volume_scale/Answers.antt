use Rattle.std.proofs.Common.{◌∙◌, refl}
use Rattle.pr_params.proofs.numbers.Params.volume_scale.Goals as goal
use Rattle.log_laws.proofs.Exports.{power_read}

pub returns-clause-value : goal.returns-clause-value
returns-clause-value c = (power_read c.raised_by.result c.raised_by.ensures.small).0 ∙ rw (c.raised_by.ensures.value) refl

pub returns-clause-low : goal.returns-clause-low
returns-clause-low c = let p = power_read c.raised_by.result c.raised_by.ensures.small in rw p.0 p.1

pub returns-clause-high : goal.returns-clause-high
returns-clause-high c = let p = power_read c.raised_by.result c.raised_by.ensures.small in rw p.0 p.2
