use Rattle.std.proofs.Common.{arith, ℕ, ◌<◌, ◌≤◌, ◌≡◌, true, false, rules, length, sym, length-set, get_or}
use Rattle.std.specs.Prelude.{IsTrue, nat_le, ◌==◌}
use Rattle.std.specs.List.{list_all}
use Rattle.std.proofs.lemmas.Bool.{and_parts, leb-true}
use Rattle.std.proofs.lemmas.List.Elements.{All-get_or}
use Rattle.std.proofs.lemmas.List.Sums.{AllPass-from_list_all}
use Rattle.case_types.specs.Ranges.{is_name_byte}
use Rattle.case_words.proofs.NameBytes.{each-more, copied-more, rest-more, is_name-each, name-empty, name-digit, name-good}
use Rattle.case_words.proofs.names.read_name.Goals as goal

pub returns-then-is_empty : goal.returns-then-is_empty
returns-then-is_empty c =
    let a : (length c.args.text.now == 0) ≡ true = search rules in
    name-empty c.args.text.now a

pub returns-then-not-is_spelled : goal.returns-then-not-is_spelled
returns-then-not-is_spelled c =
    let a : (length c.args.text.now == 0) ≡ false = search rules in
    name-digit c.args.text.now a (sym c.if-not-is_spelled.ensures)

pub bounds-bytes-i : goal.bounds-bytes-i
bounds-bytes-i c =
    let parts = and_parts (nat_le (length c.args.text.now) 16) (list_all is_name_byte c.args.text.now) (sym c.if-not-is_spelled.ensures) in
    let few : length c.args.text.now ≤ 16 = leb-true (length c.args.text.now) 16 parts.0 in
    omega (arith, few, c.loop-i.invariant.size, c.loop-i-test.true)

pub loop-i-preserved : goal.loop-i-preserved
loop-i-preserved c =
    let kept = c.loop-i.invariant in
    let parts = and_parts (nat_le (length c.args.text.now) 16) (list_all is_name_byte c.args.text.now) (sym c.if-not-is_spelled.ensures) in
    let few : length c.args.text.now ≤ 16 = leb-true (length c.args.text.now) 16 parts.0 in
    let spelled : is_name_byte (get_or c.args.text.now c.loop-i.i 0) ≡ true =
    All-get_or (λ (b : ℕ). is_name_byte b ≡ true) c.args.text.now c.loop-i.i 0 c.loop-i-test.true
    (AllPass-from_list_all is_name_byte c.args.text.now parts.1) in
    record {
      size = simp length-set kept.size;
      spelled = each-more (λ (b : ℕ). IsTrue (is_name_byte b)) c.loop-i.bytes c.loop-i.i _ (omega arith) spelled kept.spelled;
      copied = copied-more c.loop-i.bytes c.args.text.now c.loop-i.i (omega arith) (omega arith) kept.copied;
      rest = rest-more c.loop-i.bytes c.loop-i.i _ kept.rest;
    }

pub overflow_cast-result : goal.overflow_cast-result
overflow_cast-result c =
    let parts = and_parts (nat_le (length c.args.text.now) 16) (list_all is_name_byte c.args.text.now) (sym c.if-not-is_spelled.ensures) in
    let few : length c.args.text.now ≤ 16 = leb-true (length c.args.text.now) 16 parts.0 in
    omega (arith, few)

pub invariant_of-result : goal.invariant_of-result
invariant_of-result c =
    let parts = and_parts (nat_le (length c.args.text.now) 16) (list_all is_name_byte c.args.text.now) (sym c.if-not-is_spelled.ensures) in
    let few : length c.args.text.now ≤ 16 = leb-true (length c.args.text.now) 16 parts.0 in
    record {
      short = omega (arith, few);
      spelled = is_name-each (length c.args.text.now) c.loop-i.bytes
          (λ (k : ℕ) (h : k < length c.args.text.now). c.loop-i.invariant.spelled k (omega arith))
          (λ (k : ℕ) (h : length c.args.text.now ≤ k). c.loop-i.invariant.rest k (omega arith));
    }

pub returns : goal.returns
returns c =
    let a : (length c.args.text.now == 0) ≡ false = search rules in
    let end : c.loop-i.i ≡ length c.args.text.now = omega arith in
    name-good c.args.text.now c.loop-i.bytes c.loop-i.i a (sym c.if-not-is_spelled.ensures) end c.loop-i.invariant.copied
