use Rattle.std.proofs.Common.{arith, ◌+◌}
use Rattle.std.proofs.lemmas.Str.Parse.{digit_at}
use Rattle.dec_text.proofs.Digits.{next_number, number_below}
use Rattle.dec_text.proofs.forms.value_of.Goals as goal

pub overflow_mul-number : goal.overflow_mul-number
overflow_mul-number c =
    omega (
      arith,
      next_number c.args.digits.now c.loop-b.b-index c.loop-b.number c.requires.digits c.loop-b-test.true c.loop-b.invariant,
      number_below c.args.digits.now (c.loop-b.b-index + 1) c.requires.digits c.requires.short,
    )

pub overflow_sub-b : goal.overflow_sub-b
overflow_sub-b c = omega (arith, digit_at c.args.digits.now c.loop-b.b-index c.requires.digits c.loop-b-test.true)

pub overflow_add-number : goal.overflow_add-number
overflow_add-number c =
    omega (
      arith,
      c.from.ensures,
      next_number c.args.digits.now c.loop-b.b-index c.loop-b.number c.requires.digits c.loop-b-test.true c.loop-b.invariant,
      number_below c.args.digits.now (c.loop-b.b-index + 1) c.requires.digits c.requires.short,
    )

pub loop-b-preserved : goal.loop-b-preserved
loop-b-preserved c =
    let step = next_number c.args.digits.now c.loop-b.b-index c.loop-b.number c.requires.digits c.loop-b-test.true c.loop-b.invariant in
    rw c.from.ensures step
