use Rattle.std.proofs.Common.{◌∙◌, ℤ, sym, subst, arith}
use Rattle.log_laws.specs.LogSum.{AtMost}
use Rattle.log_laws.proofs.Exports.{back}
use Rattle.case_types.specs.Energy.Divisions.{bits, division_of, energy_of_division}
use Rattle.pr_params.proofs.Exports.{count_of}
use Rattle.pr_surface.proofs.SurfaceBound.{uppers_certify}
use Rattle.pr_surface.proofs.splits.split_energy.Goals as goal

pub split_energy-requires-clause-components : goal.split_energy-requires-clause-components
split_energy-requires-clause-components c = sym (count_of c.args.params.now.case)

pub returns-clause-value : goal.returns-clause-value
returns-clause-value c = back c.split_energy.result (omega (arith, c.split_energy.ensures.small)) ∙ c.split_energy.ensures.value

pub returns-clause-at_most : goal.returns-clause-at_most
returns-clause-at_most c = λ roots inst.
    let case = c.args.params.now.case in
    subst (λ (z : ℤ). AtMost (energy_of_division case roots (division_of c.args.split.now)) (bits z)) (sym (returns-clause-value c))
    (uppers_certify case roots c.args.split.now c.args.params.now.accepted inst c.requires.divides)
