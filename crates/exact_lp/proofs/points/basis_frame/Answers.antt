use Rattle.energy_surface.specs.Program.Bases.{system}
use Rattle.exact_lp.specs.Frames.{filled}
use Rattle.exact_lp.proofs.LiveParts.{basis_rows, basis_entry, frame-same}
use Rattle.exact_lp.proofs.points.basis_frame.Goals as goal

pub returns : goal.returns
returns c =
    let n = c.args.n in
    let cols = c.args.columns.now.items in
    let at = c.args.basis.now.at in
    frame-same (basis_rows n cols at) (filled n (system cols at)) c.frame_of.result.size c.frame_of.result.first.a c.frame_of.result.second.a c.frame_of.result.third.a c.frame_of.result.fourth.a
    (basis_entry n cols at)
    (rw (c.row.ensures, c.row-2.ensures, c.row-3.ensures, c.row-4.ensures) at c.frame_of.ensures)
