use Rattle.std.proofs.Common.{arith, ◌∙◌}
use Rattle.log_laws.specs.Squaring.{down, up}
use Rattle.log_enclose.proofs.Squares.{kept_down, digits_small, at_end, below_end, down_none}
use Rattle.log_enclose.proofs.SquaresUp.{kept_up, at_end_up}
use Rattle.log_enclose.proofs.digits.log2_both.Goals as goal

pub loop-place-preserved : goal.loop-place-preserved
loop-place-preserved c =
    let inv = c.loop-place.invariant in
    record {
      low_normal = c.digit_down-low_first.ensures.normal;
      low_small = digits_small c.loop-place.low_digits c.digit_down-low_first.result.0 c.loop-place._place inv.low_small c.digit_down-low_first.ensures.small;
      low_value = rw (c.digit_down-low_first.ensures.first, c.digit_down-low_first.ensures.rest)
          (kept_down c.loop-place.low_at c.loop-place.low_digits c.args.bits c.loop-place._place (down c.args.low c.args.bits) c.loop-place-test.true inv.low_value);
      high_normal = c.digit_up-high_first.ensures.normal;
      high_small = digits_small c.loop-place.high_digits c.digit_up-high_first.result.0 c.loop-place._place inv.high_small c.digit_up-high_first.ensures.small;
      high_value = rw (c.digit_up-high_first.ensures.first, c.digit_up-high_first.ensures.rest)
          (kept_up c.loop-place.high_at c.loop-place.high_digits c.args.bits c.loop-place._place (up c.args.high c.args.bits) c.loop-place-test.true inv.high_value);
    }

pub returns-clause-low : goal.returns-clause-low
returns-clause-low c =
    at_end c.loop-place.low_digits c.loop-place.low_at c.args.bits c.loop-place._place (down c.args.low c.args.bits)
    c.loop-place.auto._place-end c.loop-place-test.false (down_none c.loop-place.low_at) c.loop-place.invariant.low_value

pub returns-clause-high : goal.returns-clause-high
returns-clause-high c =
    c.rounded_up.ensures.value
    ∙ at_end_up c.loop-place.high_digits c.loop-place.high_at c.args.bits c.loop-place._place (up c.args.high c.args.bits)
    c.loop-place.auto._place-end c.loop-place-test.false c.loop-place.invariant.high_value

pub returns-clause-high_small : goal.returns-clause-high_small
returns-clause-high_small c =
    let digits = below_end c.loop-place.high_digits c.args.bits c.loop-place._place c.loop-place.auto._place-end c.loop-place-test.false c.loop-place.invariant.high_small in
    omega (arith, digits, c.rounded_up.ensures.small)
