use Rattle.std.proofs.Common.{◌≡◌, ◌*◌, ◌^◌, true}
use Rattle.std.specs.Prelude.{nat_le}
use Rattle.case_types.specs.Grid.Cells.{region_of, edge_length}
use Rattle.log_laws.specs.Sums.{all_below}
use Rattle.density_boxes.proofs.edges.is_packing_wide.Given as goal

abbrev pub invariant-loop-edge : goal.invariant-loop-edge
invariant-loop-edge l =
    all_below l.edge (λ i. nat_le (edge_length (region_of l.cell) i * 2 ^ 20) (4 * edge_length (region_of l.cell) 3)) ≡ true
