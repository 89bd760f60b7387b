use Rattle.dec_text.specs.Appending.{Adds}
use Rattle.report_text.specs.Pieces.{texts_below}
use Rattle.report_text.specs.ReportText.{potential_text}
use Rattle.report_text.proofs.reports.put_potentials.Given as goal

abbrev pub invariant-loop-i : goal.invariant-loop-i
invariant-loop-i l = Adds l.fn.out.items l.out.items (texts_below l.i (potential_text l.plane))
