use Rattle.std.proofs.Common.{◌≡◌, ◌+◌, ◌*◌, ◌^◌, ◌<◌, ◌-◌}
use Rattle.log_laws.specs.Squaring.{IsNormal, up}
use Rattle.log_enclose.proofs.digits.log2_up.Given as goal

abbrev pub invariant-loop-place : goal.invariant-loop-place
invariant-loop-place l = record {
  normal : IsNormal l.at;
  small : l.digits < 2 ^ l._place;
  value : l.digits * 2 ^ (l.bits - l._place) + up l.at (l.bits - l._place) ≡ up l.m l.bits;
}
