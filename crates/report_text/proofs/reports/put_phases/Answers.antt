use Rattle.std.proofs.Common.{arith}
use Rattle.dec_text.proofs.Exports.{adds-then, adds-as}
use Rattle.report_text.proofs.Phases.{phases_text-take}
use Rattle.report_text.proofs.reports.put_phases.Goals as goal

pub loop-k-preserved : goal.loop-k-preserved
loop-k-preserved c =
    adds-as _ (phases_text-take c.args.picked.now c.args.sum c.args.phases.now c.loop-k.k _ (omega arith))
    (adds-then c.loop-k.invariant c.in_ok-put_phase.ensures)
