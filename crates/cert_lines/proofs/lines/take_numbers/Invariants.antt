use Rattle.std.proofs.Common.{◌≡◌, drop, length}
use Rattle.cert_lines.specs.Lines.{numbers_at}
use Rattle.cert_lines.proofs.Numbers.{with_front}
use Rattle.cert_lines.proofs.lines.take_numbers.Given as goal

abbrev pub invariant-loop-range : goal.invariant-loop-range
invariant-loop-range l = record {
  read : with_front l.numbers.items (numbers_at (drop l.range-index l.ranges) l.rest) ≡ numbers_at l.ranges l.text;
  count : length l.numbers.items ≡ l.range-index;
}
