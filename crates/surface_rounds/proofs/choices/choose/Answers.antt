use Rattle.std.proofs.Common.{arith}
use Rattle.std.proofs.lemmas.Int.{ints}
use Rattle.log_laws.proofs.Exports.{back}
use Rattle.surface_rounds.proofs.Choosing.{chosen_rival, chosen_basis}
use Rattle.surface_rounds.proofs.choices.choose.Goals as goal

pub returns-in-Some-clause-chosen : goal.returns-in-Some-clause-chosen
returns-in-Some-clause-chosen c =
    let rivals = c.args.rivals.now.items in
    let basis = c.basis_energy-u.result in
    let least = c.least.result in
    let found = c.in-Some.ensures in
    let u = back c.energy.result (omega (arith, c.energy.ensures.small)) in
    rw (u, ← c.basis_energy-u.ensures.value) (chosen_rival rivals basis least c.args.slack (rw (back basis (omega (arith, c.basis_energy-u.ensures.small))) at c.least.ensures.least) c.requires.slack_low c.in-Some.k c.energy.result
    found.inside c.energy.ensures.value (omega (arith, ints, found.within, c.least.ensures.small, c.requires.slack_low, c.requires.slack_high))
    (λ j l. let h = found.first j l in omega (arith, ints, h, c.least.ensures.small, c.requires.slack_low, c.requires.slack_high)))

pub returns-in-None-clause-chosen : goal.returns-in-None-clause-chosen
returns-in-None-clause-chosen c =
    let rivals = c.args.rivals.now.items in
    let basis = c.basis_energy-u.result in
    let least = c.least.result in
    let none = c.in-None.ensures.none in
    let u = back basis (omega (arith, c.basis_energy-u.ensures.small)) in
    rw (u, ← c.basis_energy-u.ensures.value) (chosen_basis rivals basis least c.args.slack (rw u at c.least.ensures.least) c.requires.slack_low
    (λ j l. let h = none j l in omega (arith, ints, h, c.least.ensures.small, c.requires.slack_low, c.requires.slack_high)))
