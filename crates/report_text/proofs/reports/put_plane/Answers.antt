use Rattle.dec_text.proofs.Exports.{adds-then}
use Rattle.report_text.proofs.reports.put_plane.Goals as goal

pub returns : goal.returns
returns c = adds-then (adds-then c.in_ok-put_text.ensures c.in_ok-put_potentials.ensures) c.in_ok-put_text-2.ensures
