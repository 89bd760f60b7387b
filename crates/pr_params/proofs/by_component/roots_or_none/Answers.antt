use Rattle.std.proofs.Common.{sym, ◌∙◌}
use Rattle.pr_params.specs.Entries.{temperature_entry, alpha_entry}
use Rattle.pr_params.proofs.Slots.{live_yes, live_no}
use Rattle.pr_params.proofs.by_component.roots_or_none.Goals as goal

pub returns-then-i-case-clause-temperature : goal.returns-then-i-case-clause-temperature
returns-then-i-case-clause-temperature c =
    c.roots_of.ensures.temperature ∙ sym (live_yes c.args.case.now.n (temperature_entry c.args.case.now) c.args.i c.if-i-case.true)

pub returns-then-i-case-clause-alpha : goal.returns-then-i-case-clause-alpha
returns-then-i-case-clause-alpha c =
    c.roots_of.ensures.alpha ∙ sym (live_yes c.args.case.now.n (alpha_entry c.args.case.now) c.args.i c.if-i-case.true)

pub returns-else-i-case-clause-temperature : goal.returns-else-i-case-clause-temperature
returns-else-i-case-clause-temperature c =
    c.none.ensures ∙ sym (live_no c.args.case.now.n (temperature_entry c.args.case.now) c.args.i c.if-i-case.false)

pub returns-else-i-case-clause-alpha : goal.returns-else-i-case-clause-alpha
returns-else-i-case-clause-alpha c =
    c.none-else-i-case.ensures ∙ sym (live_no c.args.case.now.n (alpha_entry c.args.case.now) c.args.i c.if-i-case.false)
