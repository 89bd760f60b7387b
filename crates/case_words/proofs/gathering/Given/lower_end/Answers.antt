use Rattle.std.proofs.Common.{ℕ, Some, true, false, ap, sym, ◌∙◌}
use Rattle.std.specs.Prelude.{Err}
use Rattle.std.proofs.lemmas.Result.{err_from_is_err_and}
use Rattle.case_words.specs.declared.faults.WordFault.TheVariants.{Range}
use Rattle.case_words.specs.Answers.{when}
use Rattle.case_words.specs.Counts.{are_ordered}
use Rattle.case_words.specs.Items.{quantity_of}
use Rattle.case_words.specs.Jobs.{lo_of}
use Rattle.case_words.specs.Views.{gathered_of}
use Rattle.case_words.proofs.Steps.{tested-fault, tested, answers-fault}
use Rattle.case_words.proofs.gathering.Given.lower_end.Goals as goal

pub returns-in_err-lo : goal.returns-in_err-lo
unfolding lo_of
returns-in_err-lo c =
    let p = err_from_is_err_and c.from_residual.result c.from_residual.ensures.1 in
    answers-fault _ (lo_of c.args.place c.args.by (gathered_of c.args.self.now) c.args.value.now) c.from_residual.result c.in_err-lo.field-0.0 (p.1 ∙ ap Err p.2)
    (tested-fault (quantity_of c.args.place c.args.by c.args.value.now) (λ (m : ℕ). when (are_ordered (Some m) (gathered_of c.args.self.now).hi) m (Range c.args.place)) c.in_err-lo.field-0.0 c.in_err-lo.ensures)

pub returns-then-not-is_ordered : goal.returns-then-not-is_ordered
unfolding lo_of
returns-then-not-is_ordered c =
    tested (quantity_of c.args.place c.args.by c.args.value.now) (λ (m : ℕ). are_ordered (Some m) (gathered_of c.args.self.now).hi) c.in_ok-lo.lo (Range c.args.place) false c.in_ok-lo.ensures (sym c.if-not-is_ordered.ensures)

pub returns : goal.returns
unfolding lo_of
returns c =
    tested (quantity_of c.args.place c.args.by c.args.value.now) (λ (m : ℕ). are_ordered (Some m) (gathered_of c.args.self.now).hi) c.in_ok-lo.lo (Range c.args.place) true c.in_ok-lo.ensures (sym c.if-not-is_ordered.ensures)
