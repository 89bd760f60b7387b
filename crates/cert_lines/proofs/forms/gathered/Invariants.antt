use Rattle.std.proofs.Common.{◌≡◌, take, length}
use Rattle.cert_lines.proofs.forms.gathered.Given as goal

abbrev pub invariant-loop-range : goal.invariant-loop-range
invariant-loop-range l = record {
  copied : l.ranges.items ≡ take l.range-index l.items;
  count : length l.ranges.items ≡ l.range-index;
}
