use Rattle.std.proofs.Common.{◌≡◌, ◌+◌, ◌*◌, ◌-◌, ◌≤◌, get_or, length, arith, append-nil}
use Rattle.std.specs.Int.{IsInRange}
use Rattle.std.proofs.lemmas.Int.Digits.{digits_value-lt}
use Rattle.std.proofs.Math.Nat.{add-zero, add_assoc}
use Rattle.dec_text.proofs.Digits.{next_filled, power-more, power-small, digit_or_zero_is_digit}
use Rattle.dec_text.proofs.reading.number_of.Goals as goal

pub overflow_mul-number : goal.overflow_mul-number
overflow_mul-number c =
    let more = power-more c.loop-i.number 0 (length c.args.digits.now + c.loop-i.i) c.loop-i.invariant.small (omega arith) in
    omega (arith, power-small (c.loop-i.number * 10 + 0) (length c.args.digits.now + c.loop-i.i + 1) more (omega arith))

pub overflow_sub-digit_or_zero : goal.overflow_sub-digit_or_zero
overflow_sub-digit_or_zero c = omega (arith, c.digit_or_zero.ensures, digit_or_zero_is_digit c.args.others.now c.loop-i.i c.requires.others)

pub overflow_add-number : goal.overflow_add-number
overflow_add-number c =
    let digit : IsInRange 48 57 (get_or c.args.others.now c.loop-i.i 48) = digit_or_zero_is_digit c.args.others.now c.loop-i.i c.requires.others in
    let low : c.from.result ≤ 9 = omega (arith, c.digit_or_zero.ensures, c.from.ensures, digit) in
    let more = power-more c.loop-i.number c.from.result (length c.args.digits.now + c.loop-i.i) c.loop-i.invariant.small low in
    omega (arith, power-small (c.loop-i.number * 10 + c.from.result) (length c.args.digits.now + c.loop-i.i + 1) more (omega arith))

pub loop-i-init : goal.loop-i-init
loop-i-init c = record {
  so_far = rw (append-nil c.args.digits.now) c.value_of-number.ensures;
  small = rw (c.value_of-number.ensures, add-zero (length c.args.digits.now)) (digits_value-lt 10 c.args.digits.now c.requires.digits);
}

pub loop-i-preserved : goal.loop-i-preserved
loop-i-preserved c =
    let digit : IsInRange 48 57 (get_or c.args.others.now c.loop-i.i 48) = digit_or_zero_is_digit c.args.others.now c.loop-i.i c.requires.others in
    let low : c.from.result ≤ 9 = omega (arith, c.digit_or_zero.ensures, c.from.ensures, digit) in
    let is : c.from.result ≡ get_or c.args.others.now c.loop-i.i 48 - 48 = omega (arith, c.digit_or_zero.ensures, c.from.ensures) in
    record {
      so_far = rw is (next_filled c.args.digits.now c.args.others.now c.args.places c.loop-i.i c.loop-i.number c.requires.others c.loop-i-test.true c.loop-i.invariant.so_far);
      small = rw (← add_assoc (length c.args.digits.now) c.loop-i.i 1) (power-more c.loop-i.number c.from.result (length c.args.digits.now + c.loop-i.i) c.loop-i.invariant.small low);
    }
