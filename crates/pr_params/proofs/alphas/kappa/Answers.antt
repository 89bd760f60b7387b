use Rattle.std.proofs.Common.{SFits, rules, arith, ap, ◌∙◌, sym}
use Rattle.std.specs.Int.{w32}
use Rattle.std.proofs.lemmas.Int.{to_z-of_z}
use Rattle.case_types.specs.Energy.Parameters.{kappa_of}
use Rattle.log_laws.proofs.Exports.{back}
use Rattle.pr_params.proofs.Alpha.{kappa_above, kappa_up_to}
use Rattle.pr_params.proofs.alphas.kappa.Goals as goal

pub returns-then-row-gt4900-clause-value : goal.returns-then-row-gt4900-clause-value
returns-then-row-gt4900-clause-value c =
    let w = c.args.row.now.w in
    let fits : SFits w32 w = search rules in
    let narrow = to_z-of_z w32 w fits in
    back c.kappa_1978.result (omega (arith, c.kappa_1978.ensures.small)) ∙ (rw narrow at c.kappa_1978.ensures.value)
    ∙ sym (kappa_above w (rw narrow at c.if-row-gt4900.true)) ∙ ap (λ e. kappa_of e w) (sym c.in-Y1978.is)

pub returns-else-row-gt4900-clause-value : goal.returns-else-row-gt4900-clause-value
returns-else-row-gt4900-clause-value c =
    let w = c.args.row.now.w in
    let fits : SFits w32 w = search rules in
    let narrow = to_z-of_z w32 w fits in
    let own = c.kappa_1976-else-row-gt4900 in
    back own.result (omega (arith, own.ensures.small)) ∙ (rw narrow at own.ensures.value)
    ∙ sym (kappa_up_to w (rw narrow at c.if-row-gt4900.false)) ∙ ap (λ e. kappa_of e w) (sym c.in-Y1978.is)
