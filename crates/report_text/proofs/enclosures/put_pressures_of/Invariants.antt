use Rattle.std.proofs.Common.{ℕ, [], nat_lt, cond}
use Rattle.case_types.specs.Energy.Printed.{enclosures_in}
use Rattle.dec_text.specs.Appending.{Adds}
use Rattle.report_text.specs.Pieces.{texts_below}
use Rattle.report_text.specs.ReportText.{pressure_text}
use Rattle.report_text.proofs.enclosures.put_pressures_of.Given as goal

abbrev pub invariant-loop-j : goal.invariant-loop-j
invariant-loop-j l =
    let p = l.params in
    Adds l.fn.out.items l.out.items (texts_below l.j
    (λ (j : ℕ). cond (nat_lt l.i j) (pressure_text p.case (enclosures_in p.case.n p.two p.e p.t p.q) l.i j) []))
