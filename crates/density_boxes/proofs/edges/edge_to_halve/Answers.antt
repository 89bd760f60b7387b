use Rattle.std.proofs.Common.{◌-◌, refl, sym, ◌∙◌, inl, arith}
use Rattle.case_types.specs.Grid.Cells.{region_of, edge_to_halve as named_edge}
use Rattle.density_boxes.proofs.Widest.{wide_fraction}
use Rattle.density_boxes.proofs.edges.edge_to_halve.Goals as goal

pub returns-then-is_packing_wide-clause-named : goal.returns-then-is_packing_wide-clause-named
unfolding named_edge
returns-then-is_packing_wide-clause-named c = rw (← c.is_packing_wide.ensures, c.if-is_packing_wide.true) refl

pub returns-else-is_packing_wide-clause-named : goal.returns-else-is_packing_wide-clause-named
unfolding named_edge
returns-else-is_packing_wide-clause-named c = rw (← c.is_packing_wide.ensures, c.if-is_packing_wide.false) c.widest_fraction.ensures

pub returns-else-is_packing_wide-clause-edge : goal.returns-else-is_packing_wide-clause-edge
returns-else-is_packing_wide-clause-edge c =
    let r = region_of c.args.cell.now in
    let fails = sym c.is_packing_wide.ensures ∙ c.if-is_packing_wide.false in
    inl (rw c.widest_fraction.ensures (wide_fraction r (c.args.n - 1) (omega (arith, c.args.cell.now.thick)) fails).0)

pub returns-else-is_packing_wide-clause-long : goal.returns-else-is_packing_wide-clause-long
returns-else-is_packing_wide-clause-long c =
    let r = region_of c.args.cell.now in
    let fails = sym c.is_packing_wide.ensures ∙ c.if-is_packing_wide.false in
    rw c.widest_fraction.ensures (wide_fraction r (c.args.n - 1) (omega (arith, c.args.cell.now.thick)) fails).1
