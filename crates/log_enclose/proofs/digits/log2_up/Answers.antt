use Rattle.std.proofs.Common.{◌≡◌, arith, ◌∙◌}
use Rattle.log_laws.specs.Squaring.{up}
use Rattle.log_enclose.proofs.Squares.{digits_small, below_end}
use Rattle.log_enclose.proofs.SquaresUp.{kept_up, at_end_up}
use Rattle.log_enclose.proofs.Logs.{up_at_most}
use Rattle.log_enclose.proofs.Width.{width, down_up}
use Rattle.log_enclose.proofs.digits.log2_up.Goals as goal
use Rattle.log_enclose.proofs.digits.log2_up.Goals.{After-rounded_up}

pub loop-place-preserved : goal.loop-place-preserved
loop-place-preserved c =
    let inv = c.loop-place.invariant in
    record {
      normal = c.digit_up-first.ensures.normal;
      small = digits_small c.loop-place.digits c.digit_up-first.result.0 c.loop-place._place inv.small c.digit_up-first.ensures.small;
      value = rw (c.digit_up-first.ensures.first, c.digit_up-first.ensures.rest)
          (kept_up c.loop-place.at c.loop-place.digits c.args.bits c.loop-place._place (up c.args.m c.args.bits) c.loop-place-test.true inv.value);
    }

value_is : (c : After-rounded_up) → c.rounded_up.result ≡ up c.args.m c.args.bits
value_is c =
    c.rounded_up.ensures.value
    ∙ at_end_up c.loop-place.digits c.loop-place.at c.args.bits c.loop-place._place (up c.args.m c.args.bits)
    c.loop-place.auto._place-end c.loop-place-test.false c.loop-place.invariant.value

pub returns-clause-value : goal.returns-clause-value
returns-clause-value c = value_is c

pub returns-clause-small : goal.returns-clause-small
returns-clause-small c =
    let digits = below_end c.loop-place.digits c.args.bits c.loop-place._place c.loop-place.auto._place-end c.loop-place-test.false c.loop-place.invariant.small in
    omega (arith, digits, c.rounded_up.ensures.small)

pub returns-clause-above : goal.returns-clause-above
returns-clause-above c = rw (value_is c) (up_at_most c.args.m c.args.bits c.requires.normal)

pub returns-clause-near : goal.returns-clause-near
returns-clause-near c = rw (value_is c) (width c.args.m c.args.bits c.requires.few c.requires.normal)

pub returns-clause-above_lower : goal.returns-clause-above_lower
returns-clause-above_lower c = rw (value_is c) (down_up c.args.m c.args.bits c.requires.normal)
