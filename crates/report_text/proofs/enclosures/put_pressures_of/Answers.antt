use Rattle.std.proofs.Common.{ℕ, ◌+◌, ◌<◌, arith}
use Rattle.case_types.specs.Energy.Printed.{enclosures_in}
use Rattle.report_text.specs.ReportText.{pressure_text}
use Rattle.report_text.proofs.Components.{later_texts-none, later_texts-more}
use Rattle.dec_text.proofs.Exports.{adds-then, adds-as, adds-nothing}
use Rattle.report_text.proofs.enclosures.put_pressures_of.Goals as goal

pub loop-j-init : goal.loop-j-init
loop-j-init c =
    let p = c.args.params.now in
    let x = enclosures_in p.case.n p.two p.e p.t p.q in
    adds-as _ (later_texts-none (c.args.i + 1) c.args.i (λ (j : ℕ). pressure_text p.case x c.args.i j) (omega arith)) (adds-nothing _)

pub loop-j-preserved : goal.loop-j-preserved
loop-j-preserved c =
    let p = c.args.params.now in
    let x = enclosures_in p.case.n p.two p.e p.t p.q in
    let later : c.args.i < c.loop-j.j = omega arith in
    adds-as _ (later_texts-more c.loop-j.j c.args.i (λ (j : ℕ). pressure_text p.case x c.args.i j) later)
    (adds-then c.loop-j.invariant c.in_ok-put_pressure.ensures)
