use Rattle.case_types.specs.Grid.Cells.{region_of}
use Rattle.density_boxes.proofs.Halvings.{fewer_in_lower_packing, fewer_in_upper_packing}
use Rattle.density_boxes.proofs.halves.halve_packing.Goals as goal

pub returns-clause-lower_left : goal.returns-clause-lower_left
returns-clause-lower_left c = fewer_in_lower_packing (region_of c.args.cell.now) c.requires c.args.cell.now.packed

pub returns-clause-upper_left : goal.returns-clause-upper_left
returns-clause-upper_left c = fewer_in_upper_packing (region_of c.args.cell.now) c.requires c.args.cell.now.packed
