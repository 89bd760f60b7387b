use Rattle.std.proofs.Common.{◌≡◌, ◌+◌, ◌*◌, ◌^◌, ◌<◌, ◌-◌}
use Rattle.log_laws.specs.Squaring.{IsNormal, down}
use Rattle.log_enclose.proofs.digits.log2_down.Given as goal

abbrev pub invariant-loop-place : goal.invariant-loop-place
invariant-loop-place l = record {
  normal : IsNormal l.at;
  small : l.digits < 2 ^ l._place;
  value : l.digits * 2 ^ (l.bits - l._place) + down l.at (l.bits - l._place) ≡ down l.m l.bits;
}
