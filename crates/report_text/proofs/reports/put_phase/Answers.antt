use Rattle.report_text.proofs.Parts.{parts_small}
use Rattle.dec_text.proofs.Exports.{adds-then}
use Rattle.report_text.proofs.reports.put_phase.Goals as goal

pub moles-live-requires-clause-small : goal.moles-live-requires-clause-small
moles-live-requires-clause-small c =
    let n = c.args.picked.now.case in
    parts_small n.n c.args.phase.now.parts n.few c.requires

pub put_millionths-requires : goal.put_millionths-requires
put_millionths-requires c =
    let n = c.args.picked.now.case in
    rw c.moles-live.ensures (parts_small n.n c.args.phase.now.parts n.few c.requires)

pub returns : goal.returns
returns c =
    adds-then (adds-then (adds-then (adds-then (adds-then (adds-then c.in_ok-put_text.ensures c.in_ok-put_number.ensures)
    (rw (← c.label_of.ensures) c.in_ok-put_text-2.ensures)) c.in_ok-put_text-3.ensures) c.in_ok-put_number-2.ensures)
    (rw c.moles-live.ensures at c.in_ok-put_millionths.ensures)) c.in_ok-put_parts.ensures
