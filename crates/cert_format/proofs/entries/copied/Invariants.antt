use Rattle.std.proofs.Common.{◌≡◌, take, length}
use Rattle.cert_format.proofs.entries.copied.Given as goal

abbrev pub invariant-loop-z : goal.invariant-loop-z
invariant-loop-z l = record {
  copied : l.list.items ≡ take l.z-index l.numbers;
  count : length l.list.items ≡ l.z-index;
}
