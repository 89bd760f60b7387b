use Rattle.std.proofs.Common.{◌≡◌, ◌+◌, ◌*◌, ◌<◌, ◌^◌}
use Rattle.fix_interval.proofs.ratio.long_division.Given as goal

abbrev pub invariant-loop-i : goal.invariant-loop-i
invariant-loop-i l = record {
  divides : l.quotient * l.den + l.rest ≡ l.num * 2 ^ l.i;
  below : l.rest < l.den;
}
