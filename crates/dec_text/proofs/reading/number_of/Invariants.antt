use Rattle.std.proofs.Common.{◌≡◌, ◌+◌, ◌<◌, ◌^◌, take, length, ◌++◌, replicate}
use Rattle.std.specs.Str.Parse.{digits_value}
use Rattle.dec_text.proofs.reading.number_of.Given as goal

abbrev pub invariant-loop-i : goal.invariant-loop-i
invariant-loop-i l = record {
  so_far : l.number ≡ digits_value 10 (l.digits ++ take l.i (l.others ++ replicate l.places 48));
  small : l.number < 10 ^ (length l.digits + l.i);
}
