use Rattle.std.proofs.Common.{take}
use Rattle.dec_text.specs.Appending.{Adds}
use Rattle.report_text.specs.ReportText.{phases_text}
use Rattle.report_text.proofs.reports.put_phases.Given as goal

abbrev pub invariant-loop-k : goal.invariant-loop-k
invariant-loop-k l = Adds l.fn.out.items l.out.items (phases_text l.fn.picked l.sum 1 (take l.k l.phases))
