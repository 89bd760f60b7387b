use Rattle.std.proofs.Common.{ℕ, List, length, map, true, false, ap, sym, ◌∙◌}
use Rattle.std.specs.Prelude.{Err}
use Rattle.std.proofs.lemmas.List.{length-map}
use Rattle.std.proofs.lemmas.Result.{err_from_is_err_and}
use Rattle.case_words.specs.declared.faults.WordFault.TheVariants.{Count}
use Rattle.case_words.specs.Answers.{when}
use Rattle.case_words.specs.Names.{text_of}
use Rattle.case_words.specs.Counts.{is_as_many, count_of}
use Rattle.case_words.specs.Items.{names_of}
use Rattle.case_words.specs.Jobs.{called_of}
use Rattle.case_words.specs.Views.{gathered_of}
use Rattle.case_words.proofs.Steps.{tested-fault, tested, answers-fault, same_counted}
use Rattle.case_words.proofs.gathering.Given.called.Goals as goal

pub returns-in_err-names : goal.returns-in_err-names
unfolding called_of
returns-in_err-names c =
    let p = err_from_is_err_and c.from_residual.result c.from_residual.ensures.1 in
    answers-fault _ (called_of c.args.place (gathered_of c.args.self.now) c.args.value.now) c.from_residual.result c.in_err-names.field-0.0 (p.1 ∙ ap Err p.2)
    (tested-fault (names_of c.args.place c.args.value.now) (λ (m : List (List ℕ)). when (is_as_many (length m) (count_of (gathered_of c.args.self.now).z)) m (Count c.args.place)) c.in_err-names.field-0.0 c.in_err-names.ensures)

pub returns-then-not-is_same_count : goal.returns-then-not-is_same_count
unfolding called_of
returns-then-not-is_same_count c =
    tested (names_of c.args.place c.args.value.now) (λ (m : List (List ℕ)). is_as_many (length m) (count_of (gathered_of c.args.self.now).z)) (map text_of c.in_ok-names.names.items) (Count c.args.place) false c.in_ok-names.ensures
    (same_counted (length (map text_of c.in_ok-names.names.items)) (count_of (gathered_of c.args.self.now).z) c.len.result c.count_parts.result false (c.len.ensures.value ∙ sym (length-map c.in_ok-names.names.items text_of)) c.count_parts.ensures c.if-not-is_same_count.ensures)

pub returns : goal.returns
unfolding called_of
returns c =
    tested (names_of c.args.place c.args.value.now) (λ (m : List (List ℕ)). is_as_many (length m) (count_of (gathered_of c.args.self.now).z)) (map text_of c.in_ok-names.names.items) (Count c.args.place) true c.in_ok-names.ensures
    (same_counted (length (map text_of c.in_ok-names.names.items)) (count_of (gathered_of c.args.self.now).z) c.len.result c.count_parts.result true (c.len.ensures.value ∙ sym (length-map c.in_ok-names.names.items text_of)) c.count_parts.ensures c.if-not-is_same_count.ensures)
