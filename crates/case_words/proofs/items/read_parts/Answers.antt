use Rattle.std.proofs.Common.{◌≡◌, ◌+◌, ◌<◌, ◌≤◌, ◌∷◌, [], length, drop, arith, true, false, sym, ap, ◌∙◌, List, ℕ, refl}
use Rattle.std.specs.Prelude.{nat_le}
use Rattle.std.specs.List.{sum}
use Rattle.std.proofs.lemmas.Bool.{le-leb, lt-leb}
use Rattle.std.proofs.lemmas.List.{length_push}
use Rattle.std.proofs.lemmas.List.Sums.{sum_by-append}
use Rattle.std.proofs.lemmas.Result.{err_from_is_err_and}
use Rattle.case_words.specs.Answers.{each_of}
use Rattle.case_words.specs.Items.{items_of, number_of, is_within}
use Rattle.case_words.proofs.Each.{behind, behind-nothing, each-more, each-stops, each-ends}
use Rattle.case_words.proofs.Ranged.{many-items, few-items, parts-fault, parts-range, parts-good}
use Rattle.case_words.proofs.items.read_parts.Goals as goal

pub returns-then-count-gt-SLOTS : goal.returns-then-count-gt-SLOTS
returns-then-count-gt-SLOTS c =
    let many : nat_le (length (items_of c.args.text.now)) 4 ≡ false = lt-leb (length (items_of c.args.text.now)) 4 (omega arith) in
    parts-fault c.args.place c.args.text.now _ (many-items c.args.place (number_of c.args.place 0 0 1048576) c.args.text.now many)

pub loop-i-init : goal.loop-i-init
loop-i-init c = record {
  so_far = rw c.new-parts.ensures (behind-nothing (each_of (number_of c.args.place 0 0 1048576) (items_of c.args.text.now)));
  many = ap length c.new-parts.ensures;
  total = rw c.new-parts.ensures refl;
  small = omega arith;
}

pub returns-in_err-part : goal.returns-in_err-part
returns-in_err-part c =
    let few : nat_le (length (items_of c.args.text.now)) 4 ≡ true = le-leb (length (items_of c.args.text.now)) 4 (omega arith) in
    let inside : c.loop-i.i < length (items_of c.args.text.now) = omega arith in
    let bad = ap (number_of c.args.place 0 0 1048576) (sym c.item_at.ensures) ∙ c.in_err-part.ensures.exact in
    let p = err_from_is_err_and c.from_residual.result c.from_residual.ensures.1 in
    rw (p.1, p.2) (parts-fault c.args.place c.args.text.now _ (few-items c.args.place (number_of c.args.place 0 0 1048576) c.args.text.now few
    ∙ each-stops (number_of c.args.place 0 0 1048576) (items_of c.args.text.now) c.loop-i.i [] c.loop-i.parts.items _ inside bad c.loop-i.invariant.so_far))

pub push-requires : goal.push-requires
push-requires c = (omega arith, omega (arith, c.loop-i.invariant.many))

pub overflow_add-total : goal.overflow_add-total
overflow_add-total c = omega (arith, c.in_ok-part.ensures.high, c.loop-i.invariant.small)

pub loop-i-preserved : goal.loop-i-preserved
loop-i-preserved c =
    let inside : c.loop-i.i < length (items_of c.args.text.now) = omega arith in
    let good = ap (number_of c.args.place 0 0 1048576) (sym c.item_at.ensures) ∙ c.in_ok-part.ensures.exact in
    let high : c.in_ok-part.part ≤ 1048576 = c.in_ok-part.ensures.high in
    record {
      so_far =
          each-more (number_of c.args.place 0 0 1048576) (items_of c.args.text.now) c.loop-i.i [] c.loop-i.parts.items c.in_ok-part.part inside good c.loop-i.invariant.so_far
          ∙ ap (λ (parts : List ℕ). behind parts (each_of (number_of c.args.place 0 0 1048576) (drop (c.loop-i.i + 1) (items_of c.args.text.now)))) (sym c.push.ensures.items);
      many = ap length c.push.ensures.items ∙ length_push c.loop-i.parts.items c.in_ok-part.part ∙ ap (λ (n : ℕ). n + 1) c.loop-i.invariant.many;
      total = rw (c.push.ensures.items, sum_by-append (λ (x : ℕ). x) c.loop-i.parts.items (c.in_ok-part.part ∷ [])) (omega (arith, c.loop-i.invariant.total));
      small = omega (arith, high, c.loop-i.invariant.small);
    }

pub returns-then-not-is_in : goal.returns-then-not-is_in
returns-then-not-is_in c =
    let few : nat_le (length (items_of c.args.text.now)) 4 ≡ true = le-leb (length (items_of c.args.text.now)) 4 (omega arith) in
    let read = few-items c.args.place (number_of c.args.place 0 0 1048576) c.args.text.now few
    ∙ each-ends (number_of c.args.place 0 0 1048576) (items_of c.args.text.now) c.loop-i.i c.loop-i.parts.items (omega arith) c.loop-i.invariant.so_far in
    let total : c.into.result ≡ sum c.loop-i.parts.items = c.into.ensures ∙ c.loop-i.invariant.total in
    parts-range c.args.place c.args.text.now c.loop-i.parts.items read
    (ap (is_within 1 1048576) (sym total) ∙ sym c.if-not-is_in.ensures.exact)

pub returns : goal.returns
returns c =
    let few : nat_le (length (items_of c.args.text.now)) 4 ≡ true = le-leb (length (items_of c.args.text.now)) 4 (omega arith) in
    let read = few-items c.args.place (number_of c.args.place 0 0 1048576) c.args.text.now few
    ∙ each-ends (number_of c.args.place 0 0 1048576) (items_of c.args.text.now) c.loop-i.i c.loop-i.parts.items (omega arith) c.loop-i.invariant.so_far in
    let total : c.into.result ≡ sum c.loop-i.parts.items = c.into.ensures ∙ c.loop-i.invariant.total in
    parts-good c.args.place c.args.text.now c.loop-i.parts.items read
    (ap (is_within 1 1048576) (sym total) ∙ sym c.if-not-is_in.ensures.exact)
