use Rattle.std.proofs.Common.{◌∙◌, ◌^◌, ℕ, ℤ, sym, subst, arith}
use Rattle.log_laws.specs.LogSum.{AtMost}
use Rattle.log_laws.proofs.Exports.{back}
use Rattle.case_types.specs.Energy.Divisions.{bits, energy_of}
use Rattle.case_types.specs.Arithmetic.Numbers.{numbers_of}
use Rattle.case_types.specs.Arithmetic.Bounds.{box_of}
use Rattle.pr_params.specs.Packings.{ArePackingLogs}
use Rattle.pr_params.proofs.Exports.{each_up_to}
use Rattle.helmholtz_density.proofs.EnergyHigh.{energy_up_holds}
use Rattle.helmholtz_density.proofs.upper.energy_up.Goals as goal

pub returns-clause-value : goal.returns-clause-value
returns-clause-value c =
    back c.up_of_parts.result (omega (arith, c.up_of_parts.ensures.small))
    ∙ c.up_of_parts.ensures.value (box_of c.args.x.now) c.args.y c.mix_up.ensures (c.packing_logs.ensures.logs c.args.params.now.case)

pub returns-clause-at_most : goal.returns-clause-at_most
returns-clause-at_most c = λ roots f inst inside state same.
    let case = c.args.params.now.case in
    let few = case.few in
    subst (λ (z : ℤ). AtMost (energy_of case roots f) (bits z)) (sym (returns-clause-value c))
    (energy_up_holds case roots (box_of c.args.x.now) f c.args.y c.args.params.now.accepted inst
    (λ i l. each_up_to 4 c.args.x.now.b (2 ^ 40) c.args.x.now.inside i (omega (arith, l, few))) c.requires.some c.requires.inside inside state same)

pub returns-clause-at_half : goal.returns-clause-at_half
returns-clause-at_half c = λ half.
    let logs = subst (λ (y : ℕ). ArePackingLogs (numbers_of c.args.params.now.case) y c.packing_logs.result) half (c.packing_logs.ensures.logs c.args.params.now.case) in
    rw (back c.up_of_parts.result (omega (arith, c.up_of_parts.ensures.small))) (c.up_of_parts.ensures.at_half (box_of c.args.x.now) c.mix_up.ensures logs)
