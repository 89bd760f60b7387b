use Rattle.std.proofs.Common.{◌≡◌, take, length}
use Rattle.cert_format.proofs.making.copied_phases.Given as goal

abbrev pub invariant-loop-phase : goal.invariant-loop-phase
invariant-loop-phase l = record {
  copied : l.list.items ≡ take l.phase-index l.phases;
  count : length l.list.items ≡ l.phase-index;
}
