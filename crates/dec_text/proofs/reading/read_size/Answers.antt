use Rattle.std.proofs.Common.{◌≡◌, ◌≤◌, length, true, false, refl, rules, arith, sym}
use Rattle.std.specs.Prelude.{◌==◌, nat_lt}
use Rattle.dec_text.specs.Decimals.{has_wrong_sign, is_decimal, has_more_places, size_of}
use Rattle.dec_text.proofs.DecimalForm.{digits-from_decimal, written}
use Rattle.dec_text.proofs.FirstFault.{fault-empty, fault-sign, fault-digit, fault-places, fault-large, fault-none}
use Rattle.std.proofs.lemmas.Bool.{lt-ltb, le-ltb}
use Rattle.dec_text.proofs.reading.read_size.Goals as goal

pub returns-then-is_empty-clause-exact : goal.returns-then-is_empty-clause-exact
returns-then-is_empty-clause-exact c =
    let a : (length c.args.text.now == 0) ≡ true = search rules in
    rw (fault-empty c.args.signed c.args.places c.args.max c.args.text.now a) refl

pub returns-then-is_sign_wrong-clause-exact : goal.returns-then-is_sign_wrong-clause-exact
returns-then-is_sign_wrong-clause-exact c =
    let a : (length c.args.text.now == 0) ≡ false = search rules in
    let b : has_wrong_sign c.args.signed c.args.text.now ≡ true = sym c.if-is_sign_wrong.ensures in
    rw (fault-sign c.args.signed c.args.places c.args.max c.args.text.now a b) refl

pub returns-then-not-is_decimal_form-clause-exact :
    goal.returns-then-not-is_decimal_form-clause-exact
returns-then-not-is_decimal_form-clause-exact c =
    let a : (length c.args.text.now == 0) ≡ false = search rules in
    let b : has_wrong_sign c.args.signed c.args.text.now ≡ false = sym c.if-is_sign_wrong.ensures in
    let d : is_decimal c.args.text.now ≡ false = sym c.if-not-is_decimal_form.ensures in
    rw (fault-digit c.args.signed c.args.places c.args.max c.args.text.now a b d) refl

pub returns-then-has_digits_past-clause-exact : goal.returns-then-has_digits_past-clause-exact
returns-then-has_digits_past-clause-exact c =
    let a : (length c.args.text.now == 0) ≡ false = search rules in
    let b : has_wrong_sign c.args.signed c.args.text.now ≡ false = sym c.if-is_sign_wrong.ensures in
    let d : is_decimal c.args.text.now ≡ true = sym c.if-not-is_decimal_form.ensures in
    let e : has_more_places c.args.places c.args.text.now ≡ true = sym c.if-has_digits_past.ensures in
    rw (fault-places c.args.signed c.args.places c.args.max c.args.text.now a b d e) refl

pub number_of-size-requires-clause-digits : goal.number_of-size-requires-clause-digits
number_of-size-requires-clause-digits c =
    let d : is_decimal c.args.text.now ≡ true = sym c.if-not-is_decimal_form.ensures in
    rw (c.whole_digits_of.ensures, c.unsigned_of-unsigned.ensures) (digits-from_decimal c.args.text.now d).whole

pub number_of-size-requires-clause-others : goal.number_of-size-requires-clause-others
number_of-size-requires-clause-others c =
    let d : is_decimal c.args.text.now ≡ true = sym c.if-not-is_decimal_form.ensures in
    rw (c.places_of.ensures, c.unsigned_of-unsigned.ensures) (digits-from_decimal c.args.text.now d).places

pub number_of-size-requires-clause-short : goal.number_of-size-requires-clause-short
number_of-size-requires-clause-short c =
    let d : is_decimal c.args.text.now ≡ true = sym c.if-not-is_decimal_form.ensures in
    let short : length c.whole_digits_of.result.now ≤ 24 =
    rw (c.whole_digits_of.ensures, c.unsigned_of-unsigned.ensures) (digits-from_decimal c.args.text.now d).short in
    omega (arith, short, c.requires.places)

pub returns-then-size-from-clause-exact : goal.returns-then-size-from-clause-exact
returns-then-size-from-clause-exact c =
    let a : (length c.args.text.now == 0) ≡ false = search rules in
    let b : has_wrong_sign c.args.signed c.args.text.now ≡ false = sym c.if-is_sign_wrong.ensures in
    let d : is_decimal c.args.text.now ≡ true = sym c.if-not-is_decimal_form.ensures in
    let e : has_more_places c.args.places c.args.text.now ≡ false = sym c.if-has_digits_past.ensures in
    let size : c.number_of-size.result ≡ size_of c.args.places c.args.text.now =
    written c.args.places c.args.text.now c.unsigned_of-unsigned.result.now c.whole_digits_of.result.now c.places_of.result.now c.number_of-size.result
    c.unsigned_of-unsigned.ensures c.whole_digits_of.ensures c.places_of.ensures c.number_of-size.ensures in
    let f : nat_lt c.args.max (size_of c.args.places c.args.text.now) ≡ true =
    lt-ltb c.args.max (size_of c.args.places c.args.text.now) (omega (arith, c.from.ensures, c.if-size-from.true, size)) in
    rw (fault-large c.args.signed c.args.places c.args.max c.args.text.now a b d e f) refl

pub returns-clause-exact : goal.returns-clause-exact
returns-clause-exact c =
    let a : (length c.args.text.now == 0) ≡ false = search rules in
    let b : has_wrong_sign c.args.signed c.args.text.now ≡ false = sym c.if-is_sign_wrong.ensures in
    let d : is_decimal c.args.text.now ≡ true = sym c.if-not-is_decimal_form.ensures in
    let e : has_more_places c.args.places c.args.text.now ≡ false = sym c.if-has_digits_past.ensures in
    let size : c.number_of-size.result ≡ size_of c.args.places c.args.text.now =
    written c.args.places c.args.text.now c.unsigned_of-unsigned.result.now c.whole_digits_of.result.now c.places_of.result.now c.number_of-size.result
    c.unsigned_of-unsigned.ensures c.whole_digits_of.ensures c.places_of.ensures c.number_of-size.ensures in
    let f : nat_lt c.args.max (size_of c.args.places c.args.text.now) ≡ false =
    le-ltb c.args.max (size_of c.args.places c.args.text.now) (omega (arith, c.from.ensures, c.if-size-from.false, size)) in
    rw (fault-none c.args.signed c.args.places c.args.max c.args.text.now a b d e f, size) refl
