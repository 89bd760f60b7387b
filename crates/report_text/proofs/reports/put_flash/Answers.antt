use Rattle.std.proofs.Common.{◌≡◌, ℤ, pos, ap, sym, ◌∙◌, rules, SFits}
use Rattle.std.specs.Int.{w128}
use Rattle.std.proofs.lemmas.Int.{to_z-of_z}
use Rattle.case_types.specs.Arithmetic.Numbers.{Numbers}
use Rattle.pr_params.specs.declared.numbers.Params.{Params}
use Rattle.pr_params.proofs.Exports.{e_lo_is}
use Rattle.report_text.specs.Joules.{millijoules}
use Rattle.report_text.specs.ReportText.{flash_text}
use Rattle.dec_text.proofs.Exports.{adds-then}
use Rattle.report_text.proofs.reports.put_flash.Goals as goal

-- joules by the lower end of log2 e, which is the same in every case
by_lower_end : (p : Params) (energy joules : ℤ) → joules ≡ millijoules energy p.case.t (pos 1586259924992) → joules ≡ millijoules energy p.case.t p.e.lo
by_lower_end p energy joules is =
    is ∙ ap (millijoules energy p.case.t) (e_lo_is p.case ∙ sym (ap (λ (n : Numbers). n.log_e.lo) p.right))

pub returns : goal.returns
unfolding flash_text
returns c =
    let u : SFits w128 c.args.answer.now.u = search rules in
    let gap : SFits w128 c.args.answer.now.gap = search rules in
    let low : SFits w128 c.args.answer.now.low = search rules in
    let joules : SFits w128 c.millijoules-gap.result = search rules in
    let is = by_lower_end c.args.params.now c.args.answer.now.gap c.millijoules-gap.result (simp to_z-of_z at c.millijoules-gap.ensures) in
    adds-then (adds-then (adds-then (adds-then (adds-then (adds-then (adds-then (adds-then (adds-then
    (rw c.outcome_of.ensures at c.in_ok-put_text.ensures) c.in_ok-put_line.ensures) c.in_ok-put_conditions.ensures)
    (simp to_z-of_z at c.in_ok-put_line-2.ensures))
    (simp to_z-of_z at c.in_ok-put_line-3.ensures))
    (rw is at (simp to_z-of_z at c.in_ok-put_fixed_line.ensures)))
    c.in_ok-put_split.ensures) c.in_ok-put_plane.ensures)
    (simp to_z-of_z at c.in_ok-put_line-4.ensures))
    c.in_ok-put_enclosures.ensures
