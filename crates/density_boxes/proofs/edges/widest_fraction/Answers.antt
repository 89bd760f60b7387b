use Rattle.std.proofs.Common.{◌<◌, ◌≤◌, arith, add-one, ◌∙◌}
use Rattle.case_types.specs.Grid.Cells.{region_of, edge_length, widest_below}
use Rattle.density_boxes.proofs.Widest.{widest_none, widest_next, widest_stays}
use Rattle.density_boxes.proofs.edges.widest_fraction.Goals as goal
use Rattle.density_boxes.proofs.edges.widest_fraction.Goals.{then-length_of, else-length_of}

pub loop-edge-init : goal.loop-edge-init
loop-edge-init c = record { widest = widest_none (region_of c.args.cell.now); edge = omega arith }

pub loop-edge-preserved : goal.loop-edge-preserved
loop-edge-preserved c =
    let r = region_of c.args.cell.now in
    let i = c.loop-edge.edge in
    let same = c.loop-edge.invariant.widest in
    elim c.if-length_of.branch [
      | then-length_of w ↦
          let more : edge_length r (widest_below r i) < edge_length r i = rw (← same) (omega arith) in
          record { widest = rw (w.widest-is, add-one i) (widest_next r i more); edge = omega arith }
      | else-length_of w ↦
          let less : edge_length r i ≤ edge_length r (widest_below r i) = rw (← same) (omega arith) in
          record { widest = rw (w.widest-is, add-one i) (same ∙ widest_stays r i less); edge = omega arith }
    ]
