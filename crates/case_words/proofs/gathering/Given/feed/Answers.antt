use Rattle.std.proofs.Common.{ℕ, List, length, true, false, ap, ◌∙◌}
use Rattle.std.specs.Prelude.{Err}
use Rattle.std.proofs.lemmas.Result.{err_from_is_err_and}
use Rattle.case_words.specs.declared.faults.WordFault.TheVariants.{Count}
use Rattle.case_words.specs.Answers.{when}
use Rattle.case_words.specs.Counts.{is_as_many, count_of}
use Rattle.case_words.specs.Items.{parts_of}
use Rattle.case_words.specs.Jobs.{feed_of}
use Rattle.case_words.specs.Views.{gathered_of}
use Rattle.case_words.proofs.Steps.{tested-fault, tested, answers-fault, same_counted}
use Rattle.case_words.proofs.gathering.Given.feed.Goals as goal

pub returns-in_err-z : goal.returns-in_err-z
unfolding feed_of
returns-in_err-z c =
    let p = err_from_is_err_and c.from_residual.result c.from_residual.ensures.1 in
    answers-fault _ (feed_of c.args.place (gathered_of c.args.self.now) c.args.value.now) c.from_residual.result c.in_err-z.field-0.0 (p.1 ∙ ap Err p.2)
    (tested-fault (parts_of c.args.place c.args.value.now) (λ (m : List ℕ). when (is_as_many (length m) (count_of (gathered_of c.args.self.now).names)) m (Count c.args.place)) c.in_err-z.field-0.0 c.in_err-z.ensures)

pub returns-then-not-is_same_count : goal.returns-then-not-is_same_count
unfolding feed_of
returns-then-not-is_same_count c =
    tested (parts_of c.args.place c.args.value.now) (λ (m : List ℕ). is_as_many (length m) (count_of (gathered_of c.args.self.now).names)) c.in_ok-z.z.items (Count c.args.place) false c.in_ok-z.ensures
    (same_counted (length c.in_ok-z.z.items) (count_of (gathered_of c.args.self.now).names) c.len.result c.count_names.result false c.len.ensures.value c.count_names.ensures c.if-not-is_same_count.ensures)

pub returns : goal.returns
unfolding feed_of
returns c =
    tested (parts_of c.args.place c.args.value.now) (λ (m : List ℕ). is_as_many (length m) (count_of (gathered_of c.args.self.now).names)) c.in_ok-z.z.items (Count c.args.place) true c.in_ok-z.ensures
    (same_counted (length c.in_ok-z.z.items) (count_of (gathered_of c.args.self.now).names) c.len.result c.count_names.result true c.len.ensures.value c.count_names.ensures c.if-not-is_same_count.ensures)
