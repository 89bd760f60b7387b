use Rattle.dec_text.proofs.Exports.{adds-then}
use Rattle.report_text.proofs.texts.put_line.Goals as goal

pub returns : goal.returns
returns g c =
    adds-then (adds-then c.in_ok-put_text.ensures c.in_ok-put_number.ensures) c.in_ok-put_text-2.ensures
