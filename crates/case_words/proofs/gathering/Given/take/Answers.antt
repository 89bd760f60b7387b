use Rattle.std.proofs.Common.{◌≡◌, ℕ, length, take, drop, true, false, arith, sym, ap, ◌∙◌, ◌+◌}
use Rattle.std.specs.Prelude.{nat_lt}
use Rattle.std.specs.List.{position_or_len, after_first}
use Rattle.std.proofs.lemmas.Bool.{lt-ltb, le-ltb}
use Rattle.case_words.specs.declared.boundaries.By.{By}
use Rattle.case_words.specs.Keys.{key_of}
use Rattle.case_words.specs.Jobs.{is_equals, with_value}
use Rattle.case_words.specs.Views.{gathered_of}
use Rattle.case_words.proofs.Steps.{word-without_equals, word-unknown, word-twice, word-value, answers-same}
use Rattle.case_words.proofs.gathering.Given.take.Goals as goal

pub returns-then-end-word : goal.returns-then-end-word
returns-then-end-word c =
    let e : nat_lt (position_or_len is_equals c.args.word.now) (length c.args.word.now) ≡ false =
    le-ltb (position_or_len is_equals c.args.word.now) (length c.args.word.now) (omega (arith, c.place_of-end.ensures.at)) in
    word-without_equals c.args.command c.args.place (gathered_of c.args.self.now) c.args.word.now e

pub returns-in_default : goal.returns-in_default
returns-in_default c =
    let e : nat_lt (position_or_len is_equals c.args.word.now) (length c.args.word.now) ≡ true =
    lt-ltb (position_or_len is_equals c.args.word.now) (length c.args.word.now) (omega (arith, c.place_of-end.ensures.at, c.place_of-end.ensures.inside)) in
    word-unknown c.args.command c.args.place (gathered_of c.args.self.now) c.args.word.now e
    (ap (λ (n : ℕ). key_of c.args.command (take n c.args.word.now)) (sym c.place_of-end.ensures.at) ∙ sym c.in_default.ensures)

pub returns-then-has : goal.returns-then-has
returns-then-has c =
    let e : nat_lt (position_or_len is_equals c.args.word.now) (length c.args.word.now) ≡ true =
    lt-ltb (position_or_len is_equals c.args.word.now) (length c.args.word.now) (omega (arith, c.place_of-end.ensures.at, c.place_of-end.ensures.inside)) in
    word-twice c.args.command c.args.place (gathered_of c.args.self.now) c.args.word.now c.in-Some.key e
    (ap (λ (n : ℕ). key_of c.args.command (take n c.args.word.now)) (sym c.place_of-end.ensures.at) ∙ sym c.in-Some.ensures) (sym c.if-has.ensures)

pub returns : goal.returns
returns c =
    let e : nat_lt (position_or_len is_equals c.args.word.now) (length c.args.word.now) ≡ true =
    lt-ltb (position_or_len is_equals c.args.word.now) (length c.args.word.now) (omega (arith, c.place_of-end.ensures.at, c.place_of-end.ensures.inside)) in
    let value = word-value c.args.command c.args.place (gathered_of c.args.self.now) c.args.word.now c.in-Some.key e
    (ap (λ (n : ℕ). key_of c.args.command (take n c.args.word.now)) (sym c.place_of-end.ensures.at) ∙ sym c.in-Some.ensures) (sym c.if-has.ensures) in
    let tail = ap (λ (n : ℕ). drop (n + 1) c.args.word.now) (sym c.place_of-end.ensures.at) ∙ sym c.behind.ensures in
    let by = ap (λ (b : By). with_value c.args.place b (gathered_of c.args.self.now) c.in-Some.key (after_first is_equals c.args.word.now)) (sym c.searched.ensures) in
    answers-same _ _ (with_value c.args.place c.searched.result (gathered_of c.args.self.now) c.in-Some.key c.behind.result.now) c.set.result
    (value ∙ by ∙ ap (with_value c.args.place c.searched.result (gathered_of c.args.self.now) c.in-Some.key) tail) c.set.ensures
