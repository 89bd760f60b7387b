use Rattle.std.proofs.Common.{◌≡◌, map, take}
use Rattle.std.specs.Prelude.{IsTrue}
use Rattle.std.specs.List.{list_all}
use Rattle.component_table.specs.Capacities.{capacity_in, is_capacity}
use Rattle.component_table.proofs.capacities.capacities_of.Given as goal

abbrev pub invariant-loop-place : goal.invariant-loop-place
invariant-loop-place l = record {
  value : l.list.items ≡ map (capacity_in l.cps) (take l.place-index l.places);
  range : IsTrue (list_all is_capacity l.list.items);
}
