use Rattle.std.proofs.Common.{◌≡◌, pos, to_z, rules}
use Rattle.std.specs.Int.{w128}
use Rattle.dec_text.proofs.Exports.{adds-then}
use Rattle.report_text.proofs.reports.put_conditions.Goals as goal

pub returns : goal.returns
returns c =
    let kelvins : to_z w128 c.args.case.now.t ≡ pos c.args.case.now.t = search rules in
    adds-then (adds-then (adds-then (adds-then c.in_ok-put_text.ensures (rw kelvins at c.in_ok-put_fixed.ensures))
    c.in_ok-put_text-2.ensures) c.in_ok-put_number.ensures) c.in_ok-put_line.ensures
