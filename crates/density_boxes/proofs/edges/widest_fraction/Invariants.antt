use Rattle.std.proofs.Common.{◌≡◌, ◌≤◌}
use Rattle.case_types.specs.Grid.Cells.{region_of, widest_below}
use Rattle.density_boxes.proofs.edges.widest_fraction.Given as goal

abbrev pub invariant-loop-edge : goal.invariant-loop-edge
invariant-loop-edge l = record { widest : l.widest ≡ widest_below (region_of l.cell) l.edge; edge : l.widest ≤ 3 }
