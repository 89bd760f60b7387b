use Rattle.pr_params.proofs.Components.{interaction_at_most, interaction_at_least, interaction_read}
use Rattle.pr_params.proofs.by_pair.interaction_of.Goals as goal

pub returns-clause-low : goal.returns-clause-low
returns-clause-low c =
    rw (interaction_read c.args.case.now c.args.i c.args.j c.requires.live c.requires.other_live)
    (interaction_at_least c.args.case.now c.args.i c.args.j c.requires.live c.requires.other_live)

pub returns-clause-high : goal.returns-clause-high
returns-clause-high c =
    rw (interaction_read c.args.case.now c.args.i c.args.j c.requires.live c.requires.other_live)
    (interaction_at_most c.args.case.now c.args.i c.args.j c.requires.live c.requires.other_live)
