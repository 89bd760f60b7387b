use Rattle.std.proofs.Common.{◌≡◌}
use Rattle.log_laws.specs.Squaring.{down}
use Rattle.log_enclose.proofs.Squares.{kept_down, digits_small, at_end, down_none}
use Rattle.log_enclose.proofs.Logs.{down_at_least}
use Rattle.log_enclose.proofs.digits.log2_down.Goals as goal
use Rattle.log_enclose.proofs.digits.log2_down.Goals.{After-loop-place}

pub loop-place-preserved : goal.loop-place-preserved
loop-place-preserved c =
    let inv = c.loop-place.invariant in
    record {
      normal = c.digit_down-first.ensures.normal;
      small = digits_small c.loop-place.digits c.digit_down-first.result.0 c.loop-place._place inv.small c.digit_down-first.ensures.small;
      value = rw (c.digit_down-first.ensures.first, c.digit_down-first.ensures.rest)
          (kept_down c.loop-place.at c.loop-place.digits c.args.bits c.loop-place._place (down c.args.m c.args.bits) c.loop-place-test.true inv.value);
    }

value_at_end : (c : After-loop-place) → c.loop-place.digits ≡ down c.args.m c.args.bits
value_at_end c =
    at_end c.loop-place.digits c.loop-place.at c.args.bits c.loop-place._place (down c.args.m c.args.bits)
    c.loop-place.auto._place-end c.loop-place-test.false (down_none c.loop-place.at) c.loop-place.invariant.value

pub returns-clause-value : goal.returns-clause-value
returns-clause-value c = value_at_end c

pub returns-clause-below : goal.returns-clause-below
returns-clause-below c = rw (value_at_end c) (down_at_least c.args.m c.args.bits c.requires.normal)
