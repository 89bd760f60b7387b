use Rattle.dec_text.proofs.Exports.{adds-then}
use Rattle.report_text.proofs.reports.put_split.Goals as goal

pub returns : goal.returns
returns c =
    adds-then (adds-then (adds-then c.in_ok-put_text.ensures c.in_ok-put_number.ensures)
    (rw c.len.ensures.value at c.in_ok-put_line.ensures))
    (rw c.as_slice.ensures.value at c.in_ok-put_phases.ensures)
