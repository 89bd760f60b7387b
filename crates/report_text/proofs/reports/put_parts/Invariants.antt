use Rattle.dec_text.specs.Appending.{Adds}
use Rattle.report_text.specs.Pieces.{texts_below}
use Rattle.report_text.specs.ReportText.{part_text}
use Rattle.report_text.proofs.reports.put_parts.Given as goal

abbrev pub invariant-loop-i : goal.invariant-loop-i
invariant-loop-i l = Adds l.fn.out.items l.out.items (texts_below l.i (part_text l.picked l.parts))
