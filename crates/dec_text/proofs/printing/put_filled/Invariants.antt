use Rattle.std.proofs.Common.{◌≡◌, ◌-◌, ◌≤◌, length, ◌++◌, replicate}
use Rattle.dec_text.proofs.printing.put_filled.Given as goal

abbrev pub invariant-loop-i : goal.invariant-loop-i
invariant-loop-i l = record {
  filled : l.text.bytes ≡ l.initial.text.bytes ++ replicate (l._i - length l.digits) 48;
  start : length l.digits ≤ l._i;
}
