use Rattle.std.proofs.Common.{◌≡◌, drop}
use Rattle.component_table.specs.Capacities.{all_there}
use Rattle.component_table.proofs.capacities.need_cp.Given as goal

abbrev pub invariant-loop-k : goal.invariant-loop-k
invariant-loop-k l = all_there l.picked.live.items l.picked.cps.items ≡ all_there (drop l.k l.picked.live.items) (drop l.k l.picked.cps.items)
