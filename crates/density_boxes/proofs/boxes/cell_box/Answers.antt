use Rattle.std.proofs.Common.{◌≡◌}
use Rattle.case_types.specs.Grid.Cells.{region_of, box_of_region}
use Rattle.density_boxes.proofs.Spread.{scaled-spread, is_box, is_box_by_ends}
use Rattle.density_boxes.proofs.boxes.cell_box.Goals as goal

pub returns-clause-lo : goal.returns-clause-lo
returns-clause-lo c =
    rw (c.in_packing_units.ensures, c.composition.ensures, c.rest_of-least.ensures, c.free_sum.ensures)
    (scaled-spread c.args.n c.args.cell.now.lo _)

pub returns-clause-hi : goal.returns-clause-hi
returns-clause-hi c =
    rw (c.in_packing_units-2.ensures, c.composition-2.ensures, c.rest_of-greatest.ensures, c.free_sum-2.ensures)
    (scaled-spread c.args.n c.args.cell.now.hi _)

pub invariant_of-result : goal.invariant_of-result
invariant_of-result c =
    let r = region_of c.args.cell.now in
    let box = box_of_region c.args.n r in
    let low : c.in_packing_units.result ≡ box.lo =
    rw (c.in_packing_units.ensures, c.composition.ensures, c.rest_of-least.ensures, c.free_sum.ensures)
    (scaled-spread c.args.n r.lo _) in
    let high : c.in_packing_units-2.result ≡ box.hi =
    rw (c.in_packing_units-2.ensures, c.composition-2.ensures, c.rest_of-greatest.ensures, c.free_sum-2.ensures)
    (scaled-spread c.args.n r.hi _) in
    let holds = is_box_by_ends c.in_packing_units.result c.in_packing_units-2.result box low high
    (is_box c.args.n r c.requires.one c.requires.four c.args.cell.now.ordered c.args.cell.now.inside c.requires.meets) in
    record { ordered = holds.ordered; inside = holds.inside; not_above = holds.not_above; not_below = holds.not_below }
