use Rattle.std.proofs.Common.{rules, SFits, get_or, pos}
use Rattle.std.specs.Int.{w128}
use Rattle.std.proofs.lemmas.Int.{to_z-of_z}
use Rattle.report_text.specs.ReportText.{potential_text}
use Rattle.report_text.proofs.Components.{texts_below-more}
use Rattle.dec_text.proofs.Exports.{adds-then, adds-as}
use Rattle.report_text.proofs.reports.put_potentials.Goals as goal

pub loop-i-preserved : goal.loop-i-preserved
loop-i-preserved c =
    let fits : SFits w128 (get_or c.args.plane.now.lam c.loop-i.i (pos 0)) = search rules in
    adds-as _ (texts_below-more c.loop-i.i (potential_text c.args.plane.now))
    (adds-then c.loop-i.invariant (adds-then c.in_ok-put_text.ensures (simp to_z-of_z at c.in_ok-put_number.ensures)))
