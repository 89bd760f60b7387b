use Rattle.case_types.specs.Energy.Printed.{enclosures_in}
use Rattle.dec_text.specs.Appending.{Adds}
use Rattle.report_text.specs.Pieces.{texts_below}
use Rattle.report_text.specs.ReportText.{temperature_text}
use Rattle.report_text.proofs.enclosures.put_temperatures.Given as goal

abbrev pub invariant-loop-i : goal.invariant-loop-i
invariant-loop-i l =
    let p = l.params in
    Adds l.fn.out.items l.out.items (texts_below l.i (temperature_text p.case (enclosures_in p.case.n p.two p.e p.t p.q)))
