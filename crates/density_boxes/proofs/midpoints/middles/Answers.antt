use Rattle.std.proofs.Common.{sym}
use Rattle.case_types.specs.Grid.Cells.{region_of}
use Rattle.density_boxes.proofs.Spread.{middles_listed}
use Rattle.density_boxes.proofs.midpoints.middles.Goals as goal

pub returns : goal.returns
returns c = rw (c.middle.ensures, c.middle-2.ensures, c.middle-3.ensures) (sym (middles_listed (region_of c.args.cell.now)))
