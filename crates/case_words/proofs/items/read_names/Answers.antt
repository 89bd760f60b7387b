use Rattle.std.proofs.Common.{◌≡◌, ◌+◌, ◌<◌, [], length, map, drop, arith, true, false, sym, ap, ◌∙◌, List, ℕ}
use Rattle.std.specs.Prelude.{nat_le}
use Rattle.std.proofs.lemmas.Bool.{le-leb, lt-leb}
use Rattle.std.proofs.lemmas.List.{map_push, length_push}
use Rattle.case_words.specs.Answers.{each_of}
use Rattle.case_words.specs.Names.{text_of, are_different}
use Rattle.case_types.specs.declared.cases.Name.{Name}
use Rattle.case_words.specs.Items.{items_of, valued}
use Rattle.case_words.proofs.Each.{behind, behind-nothing, each-more, each-stops, each-ends}
use Rattle.case_words.proofs.Ranged.{read_as_name, many-items, few-items, names-fault, names-twice, names-good}
use Rattle.case_words.proofs.items.read_names.Goals as goal

pub returns-then-count-gt-SLOTS : goal.returns-then-count-gt-SLOTS
returns-then-count-gt-SLOTS c =
    let many : nat_le (length (items_of c.args.text.now)) 4 ≡ false = lt-leb (length (items_of c.args.text.now)) 4 (omega arith) in
    names-fault c.args.place c.args.text.now _ (many-items c.args.place (read_as_name c.args.place) c.args.text.now many)

pub returns-in-Err : goal.returns-in-Err
returns-in-Err c =
    let few : nat_le (length (items_of c.args.text.now)) 4 ≡ true = le-leb (length (items_of c.args.text.now)) 4 (omega arith) in
    let inside : c.loop-i.i < length (items_of c.args.text.now) = omega arith in
    let bad = ap (λ (item : List ℕ). read_as_name c.args.place item) (sym c.item_at.ensures) ∙ ap (valued c.args.place) c.in-Err.ensures in
    names-fault c.args.place c.args.text.now _ (few-items c.args.place (read_as_name c.args.place) c.args.text.now few
    ∙ each-stops (read_as_name c.args.place) (items_of c.args.text.now) c.loop-i.i [] (map text_of c.loop-i.names.items) _ inside bad c.loop-i.invariant.so_far)

pub loop-i-init : goal.loop-i-init
loop-i-init c = record {
  so_far =
      rw c.new-names.ensures (behind-nothing (each_of (read_as_name c.args.place) (items_of c.args.text.now)));
  many = ap length c.new-names.ensures;
}

pub push-requires : goal.push-requires
push-requires c = (omega arith, omega (arith, c.loop-i.invariant.many))

pub loop-i-preserved : goal.loop-i-preserved
loop-i-preserved c =
    let inside : c.loop-i.i < length (items_of c.args.text.now) = omega arith in
    let good = ap (λ (item : List ℕ). read_as_name c.args.place item) (sym c.item_at.ensures) ∙ ap (valued c.args.place) c.in-Ok.ensures in
    record {
      so_far =
          each-more (read_as_name c.args.place) (items_of c.args.text.now) c.loop-i.i [] (map text_of c.loop-i.names.items) (text_of c.in-Ok.name) inside good c.loop-i.invariant.so_far
          ∙ ap (λ (names : List (List ℕ)). behind names (each_of (read_as_name c.args.place) (drop (c.loop-i.i + 1) (items_of c.args.text.now))))
          (sym (ap (map text_of) c.push.ensures.items ∙ map_push text_of c.loop-i.names.items c.in-Ok.name));
      many = ap length c.push.ensures.items ∙ length_push c.loop-i.names.items c.in-Ok.name ∙ ap (λ (n : ℕ). n + 1) c.loop-i.invariant.many;
    }

pub returns-then-not-differ : goal.returns-then-not-differ
returns-then-not-differ c =
    let few : nat_le (length (items_of c.args.text.now)) 4 ≡ true = le-leb (length (items_of c.args.text.now)) 4 (omega arith) in
    let read = few-items c.args.place (read_as_name c.args.place) c.args.text.now few
    ∙ each-ends (read_as_name c.args.place) (items_of c.args.text.now) c.loop-i.i (map text_of c.loop-i.names.items) (omega arith) c.loop-i.invariant.so_far in
    names-twice c.args.place c.args.text.now (map text_of c.loop-i.names.items) read
    (ap (λ (names : List Name). are_different (map text_of names)) (sym c.as_slice.ensures.value) ∙ sym c.if-not-differ.ensures)

pub returns : goal.returns
returns c =
    let few : nat_le (length (items_of c.args.text.now)) 4 ≡ true = le-leb (length (items_of c.args.text.now)) 4 (omega arith) in
    let read = few-items c.args.place (read_as_name c.args.place) c.args.text.now few
    ∙ each-ends (read_as_name c.args.place) (items_of c.args.text.now) c.loop-i.i (map text_of c.loop-i.names.items) (omega arith) c.loop-i.invariant.so_far in
    names-good c.args.place c.args.text.now (map text_of c.loop-i.names.items) read
    (ap (λ (names : List Name). are_different (map text_of names)) (sym c.as_slice.ensures.value) ∙ sym c.if-not-differ.ensures)
