use Rattle.std.proofs.Common.{◌≡◌, to_z, of_z, ◌∙◌, arith}
use Rattle.std.specs.Int.{w128}
use Rattle.log_laws.proofs.Exports.{back}
use Rattle.case_types.specs.Arithmetic.Bounds.{energy_up as upper_energy}
use Rattle.case_types.specs.Arithmetic.Numbers.{numbers_of}
use Rattle.case_types.specs.Arithmetic.Splits.{phase_up}
use Rattle.candidate_split.proofs.list.has_small_energy.Goals as goal

pub returns : goal.returns
returns c =
    let case = c.args.params.now.case in
    let energy : to_z w128 (of_z w128 c.phase_energy.result) ≡ phase_up case.n (upper_energy (numbers_of case)) c.args.phase.now =
    back c.phase_energy.result (omega (arith, c.phase_energy.ensures.small)) ∙ c.phase_energy.ensures.value in
    rw energy at c.is_small.ensures
