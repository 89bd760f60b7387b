use Rattle.std.proofs.Common.{◌≡◌, to_z, of_z, rules}
use mir.Syntax.{w128}
use Rattle.split_energies.proofs.splits.weighed_energy.Goals as goal

pub returns-clause-value : goal.returns-clause-value
returns-clause-value g c =
    let up = c.phase_energy-up.result in
    let u : to_z w128 (of_z w128 up) ≡ up = search rules in
    let is = rw (u, c.moles.ensures) at c.energy_share.ensures.value in
    search (rules, is)
