use Rattle.std.proofs.Common.{◌≡◌, drop}
use Rattle.component_table.specs.Capacities.{capacity_in}
use Rattle.component_table.proofs.capacities.capacity.Given as goal

abbrev pub invariant-loop-row : goal.invariant-loop-row
invariant-loop-row l = capacity_in l.cps l.place ≡ capacity_in (drop l.row-index l.cps) l.place
