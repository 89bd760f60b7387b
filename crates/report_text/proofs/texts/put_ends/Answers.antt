use Rattle.std.proofs.Common.{rules, SFits}
use Rattle.std.specs.Int.{w128}
use Rattle.std.proofs.lemmas.Int.{to_z-of_z}
use Rattle.dec_text.proofs.Exports.{adds-then}
use Rattle.report_text.proofs.texts.put_ends.Goals as goal

pub returns : goal.returns
returns c =
    let lo : SFits w128 c.args.ends.lo = search rules in
    let hi : SFits w128 c.args.ends.hi = search rules in
    adds-then (adds-then c.in_ok-put_text.ensures
    (simp to_z-of_z at c.in_ok-put_number.ensures))
    (simp to_z-of_z at c.in_ok-put_line.ensures)
