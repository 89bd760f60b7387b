use Rattle.dec_text.proofs.Exports.{adds-then}
use Rattle.report_text.proofs.enclosures.put_enclosures.Goals as goal

pub returns : goal.returns
returns c =
    adds-then (adds-then (adds-then c.in_ok-put_ends.ensures c.in_ok-put_ends-2.ensures) c.in_ok-put_temperatures.ensures)
    c.in_ok-put_pressures.ensures
