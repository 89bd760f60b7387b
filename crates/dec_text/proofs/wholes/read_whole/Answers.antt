use Rattle.std.proofs.Common.{◌≡◌, ◌<◌, length, true, false, refl, rules, arith, sym, ◌∙◌, ap, ◌^◌}
use Rattle.std.specs.Str.Parse.{digits_value}
use Rattle.std.proofs.lemmas.Bool.{le-leb, lt-leb}
use Rattle.std.specs.Prelude.{◌==◌, nat_le}
use Rattle.dec_text.specs.Decimals.{is_whole, without_minus, is_negative}
use Rattle.dec_text.proofs.DecimalForm.{digits-from_whole, whole-long}
use Rattle.dec_text.proofs.FirstFault.{whole-empty, whole-digit, whole-large, whole-none}
use Rattle.dec_text.proofs.Signs.{negated, kept, whole-answer}
use Rattle.dec_text.proofs.wholes.read_whole.Goals as goal

pub returns-then-is_empty : goal.returns-then-is_empty
returns-then-is_empty c =
    let a : (length c.args.text.now == 0) ≡ true = search rules in
    rw (whole-empty c.args.text.now a) refl

pub returns-then-not-has_one_spelling : goal.returns-then-not-has_one_spelling
returns-then-not-has_one_spelling c =
    let a : (length c.args.text.now == 0) ≡ false = search rules in
    let b : is_whole c.args.text.now ≡ false = sym c.if-not-has_one_spelling.ensures in
    rw (whole-digit c.args.text.now a b) refl

pub returns-then-digits-gt38 : goal.returns-then-digits-gt38
returns-then-digits-gt38 c =
    let a : (length c.args.text.now == 0) ≡ false = search rules in
    let b : is_whole c.args.text.now ≡ true = sym c.if-not-has_one_spelling.ensures in
    let long : 38 < length (without_minus c.args.text.now) = rw c.unsigned_of-digits.ensures at c.if-digits-gt38.true in
    let d : nat_le (2 ^ 126) (digits_value 10 (without_minus c.args.text.now)) ≡ true =
    le-leb (2 ^ 126) (digits_value 10 (without_minus c.args.text.now)) (whole-long c.args.text.now b long) in
    rw (whole-large c.args.text.now a b d) refl

pub value_of-size-requires-clause-digits : goal.value_of-size-requires-clause-digits
value_of-size-requires-clause-digits c =
    let b : is_whole c.args.text.now ≡ true = sym c.if-not-has_one_spelling.ensures in
    rw c.unsigned_of-digits.ensures (digits-from_whole c.args.text.now b)

pub returns-then-size : goal.returns-then-size
returns-then-size c =
    let a : (length c.args.text.now == 0) ≡ false = search rules in
    let b : is_whole c.args.text.now ≡ true = sym c.if-not-has_one_spelling.ensures in
    let size : c.value_of-size.result ≡ digits_value 10 (without_minus c.args.text.now) = c.value_of-size.ensures ∙ ap (digits_value 10) c.unsigned_of-digits.ensures in
    let d : nat_le (2 ^ 126) (digits_value 10 (without_minus c.args.text.now)) ≡ true =
    le-leb (2 ^ 126) (digits_value 10 (without_minus c.args.text.now)) (omega (arith, c.if-size.true, size)) in
    rw (whole-large c.args.text.now a b d) refl

pub returns-then-is_minus_first : goal.returns-then-is_minus_first
returns-then-is_minus_first c =
    let a : (length c.args.text.now == 0) ≡ false = search rules in
    let b : is_whole c.args.text.now ≡ true = sym c.if-not-has_one_spelling.ensures in
    let size : c.value_of-size.result ≡ digits_value 10 (without_minus c.args.text.now) = c.value_of-size.ensures ∙ ap (digits_value 10) c.unsigned_of-digits.ensures in
    let d : nat_le (2 ^ 126) (digits_value 10 (without_minus c.args.text.now)) ≡ false =
    lt-leb (2 ^ 126) (digits_value 10 (without_minus c.args.text.now)) (omega (arith, c.if-size.false, size)) in
    let minus : is_negative c.args.text.now ≡ true = sym c.if-is_minus_first.ensures in
    whole-answer c.args.text.now c.value_of-size.result _ (whole-none c.args.text.now a b d) size
    (negated c.args.text.now c.value_of-size.result (omega (arith, c.if-size.false)) minus)

pub returns-else-is_minus_first : goal.returns-else-is_minus_first
returns-else-is_minus_first c =
    let a : (length c.args.text.now == 0) ≡ false = search rules in
    let b : is_whole c.args.text.now ≡ true = sym c.if-not-has_one_spelling.ensures in
    let size : c.value_of-size.result ≡ digits_value 10 (without_minus c.args.text.now) = c.value_of-size.ensures ∙ ap (digits_value 10) c.unsigned_of-digits.ensures in
    let d : nat_le (2 ^ 126) (digits_value 10 (without_minus c.args.text.now)) ≡ false =
    lt-leb (2 ^ 126) (digits_value 10 (without_minus c.args.text.now)) (omega (arith, c.if-size.false, size)) in
    let minus : is_negative c.args.text.now ≡ false = sym c.if-is_minus_first.ensures in
    whole-answer c.args.text.now c.value_of-size.result _ (whole-none c.args.text.now a b d) size
    (kept c.args.text.now c.value_of-size.result (omega (arith, c.if-size.false)) minus)
