use Rattle.std.proofs.Common.{◌≡◌, ◌≤◌, length, map}
use Rattle.std.specs.List.{range_with_len}
use Rattle.cert_format.specs.Building.{phase_on}
use Rattle.cert_format.proofs.building.phases_of.Given as goal

abbrev pub invariant-loop-k : goal.invariant-loop-k
invariant-loop-k l = record {
  made : l.phases.items ≡ map (phase_on l.lines) (range_with_len 0 l.k);
  count : length l.phases.items ≡ l.k;
  few : l.k-end ≤ 4;
  reached : l.k ≤ l.k-end;
  total : l.k-end ≡ l.lines.shape.phases;
}
