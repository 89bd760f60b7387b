use Rattle.std.proofs.Common.{◌∙◌, arith}
use Rattle.log_laws.proofs.Exports.{back}
use Rattle.split_energies.proofs.phases.phase_energy.Goals as goal

pub returns-clause-value : goal.returns-clause-value
returns-clause-value g c =
    let box = c.phase_box.ensures.value in
    let mix = rw box at c.mix_up-mix.ensures in
    back c.up.result (omega (arith, c.up.ensures.small))
    ∙ c.up.ensures.value _ c.args.phase.now.packing mix c.logs-logs.ensures.logs
