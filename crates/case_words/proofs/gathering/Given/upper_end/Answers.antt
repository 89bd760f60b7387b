use Rattle.std.proofs.Common.{ℕ, Some, true, false, ap, sym, ◌∙◌}
use Rattle.std.specs.Prelude.{Err}
use Rattle.std.proofs.lemmas.Result.{err_from_is_err_and}
use Rattle.case_words.specs.declared.faults.WordFault.TheVariants.{Range}
use Rattle.case_words.specs.Answers.{when}
use Rattle.case_words.specs.Counts.{are_ordered}
use Rattle.case_words.specs.Items.{quantity_of}
use Rattle.case_words.specs.Jobs.{hi_of}
use Rattle.case_words.specs.Views.{gathered_of}
use Rattle.case_words.proofs.Steps.{tested-fault, tested, answers-fault}
use Rattle.case_words.proofs.gathering.Given.upper_end.Goals as goal

pub returns-in_err-hi : goal.returns-in_err-hi
unfolding hi_of
returns-in_err-hi c =
    let p = err_from_is_err_and c.from_residual.result c.from_residual.ensures.1 in
    answers-fault _ (hi_of c.args.place c.args.by (gathered_of c.args.self.now) c.args.value.now) c.from_residual.result c.in_err-hi.field-0.0 (p.1 ∙ ap Err p.2)
    (tested-fault (quantity_of c.args.place c.args.by c.args.value.now) (λ (m : ℕ). when (are_ordered (gathered_of c.args.self.now).lo (Some m)) m (Range c.args.place)) c.in_err-hi.field-0.0 c.in_err-hi.ensures)

pub returns-then-not-is_ordered : goal.returns-then-not-is_ordered
unfolding hi_of
returns-then-not-is_ordered c =
    tested (quantity_of c.args.place c.args.by c.args.value.now) (λ (m : ℕ). are_ordered (gathered_of c.args.self.now).lo (Some m)) c.in_ok-hi.hi (Range c.args.place) false c.in_ok-hi.ensures (sym c.if-not-is_ordered.ensures)

pub returns : goal.returns
unfolding hi_of
returns c =
    tested (quantity_of c.args.place c.args.by c.args.value.now) (λ (m : ℕ). are_ordered (gathered_of c.args.self.now).lo (Some m)) c.in_ok-hi.hi (Range c.args.place) true c.in_ok-hi.ensures (sym c.if-not-is_ordered.ensures)
