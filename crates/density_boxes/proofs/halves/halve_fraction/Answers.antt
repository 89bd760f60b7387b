use Rattle.std.proofs.Common.{◌<◌, ◌^◌, length, arith}
use Rattle.case_types.specs.Grid.Cells.{region_of}
use Rattle.density_boxes.proofs.Halvings.{fewer_below_cut, fewer_above_cut}
use Rattle.density_boxes.proofs.Lists.{up_to_at}
use Rattle.density_boxes.proofs.halves.halve_fraction.Goals as goal

pub returns-clause-lower_left : goal.returns-clause-lower_left
returns-clause-lower_left c =
    let r = region_of c.args.cell.now in
    let high = up_to_at 3 r.hi (2 ^ 20) c.args.edge c.requires.fraction c.args.cell.now.inside in
    let inside : c.args.edge < length r.hi = omega arith in
    fewer_below_cut r c.args.edge c.requires.fraction inside c.requires.wide (omega (arith, high))

pub returns-clause-upper_left : goal.returns-clause-upper_left
returns-clause-upper_left c =
    let r = region_of c.args.cell.now in
    let high = up_to_at 3 r.hi (2 ^ 20) c.args.edge c.requires.fraction c.args.cell.now.inside in
    let inside : c.args.edge < length r.lo = omega arith in
    fewer_above_cut r c.args.edge c.requires.fraction inside c.requires.wide (omega (arith, high))
