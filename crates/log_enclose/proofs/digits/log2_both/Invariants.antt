use Rattle.std.proofs.Common.{◌≡◌, ◌+◌, ◌*◌, ◌^◌, ◌<◌, ◌-◌}
use Rattle.log_laws.specs.Squaring.{IsNormal, down, up}
use Rattle.log_enclose.proofs.digits.log2_both.Given as goal

abbrev pub invariant-loop-place : goal.invariant-loop-place
invariant-loop-place l = record {
  low_normal : IsNormal l.low_at;
  low_small : l.low_digits < 2 ^ l._place;
  low_value : l.low_digits * 2 ^ (l.bits - l._place) + down l.low_at (l.bits - l._place) ≡ down l.low l.bits;
  high_normal : IsNormal l.high_at;
  high_small : l.high_digits < 2 ^ l._place;
  high_value : l.high_digits * 2 ^ (l.bits - l._place) + up l.high_at (l.bits - l._place) ≡ up l.high l.bits;
}
