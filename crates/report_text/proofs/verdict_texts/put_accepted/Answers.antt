use Rattle.std.proofs.Common.{rules, SFits}
use Rattle.std.specs.Int.{w128}
use Rattle.std.proofs.lemmas.Int.{to_z-of_z}
use Rattle.dec_text.proofs.Exports.{adds-then}
use Rattle.report_text.proofs.verdict_texts.put_accepted.Goals as goal

pub returns : goal.returns
returns c =
    let upper : SFits w128 c.args.u = search rules in
    let gap : SFits w128 c.args.gap = search rules in
    adds-then (adds-then c.in_ok-put_text.ensures
    (simp to_z-of_z at c.in_ok-put_number.ensures))
    (simp to_z-of_z at c.in_ok-put_line.ensures)
