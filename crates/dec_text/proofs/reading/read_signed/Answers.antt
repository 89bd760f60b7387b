use Rattle.std.proofs.Common.{◌≡◌, true, false, arith, sym}
use Rattle.std.proofs.lemmas.Int.{ints}
use Rattle.dec_text.specs.Decimals.{is_negative}
use Rattle.dec_text.proofs.Signs.{signed-answer, negated_short, kept_short}
use Rattle.dec_text.proofs.reading.read_signed.Goals as goal

pub overflow_cast-size : goal.overflow_cast-size
overflow_cast-size c = omega (arith, c.in_ok-size.ensures.small)

pub overflow_sub-result : goal.overflow_sub-result
overflow_sub-result c = omega (arith, ints, c.in_ok-size.ensures.small)

pub returns-then-is_minus_first : goal.returns-then-is_minus_first
returns-then-is_minus_first c =
    let minus : is_negative c.args.text.now ≡ true = sym c.if-is_minus_first.ensures in
    signed-answer c.args.places c.args.max c.args.text.now c.in_ok-size.field-0 _ c.in_ok-size.ensures.exact
    (negated_short c.args.text.now c.in_ok-size.field-0 (omega (arith, c.in_ok-size.ensures.small)) minus)

pub returns-else-is_minus_first : goal.returns-else-is_minus_first
returns-else-is_minus_first c =
    let minus : is_negative c.args.text.now ≡ false = sym c.if-is_minus_first.ensures in
    signed-answer c.args.places c.args.max c.args.text.now c.in_ok-size.field-0 _ c.in_ok-size.ensures.exact
    (kept_short c.args.text.now c.in_ok-size.field-0 (omega (arith, c.in_ok-size.ensures.small)) minus)
