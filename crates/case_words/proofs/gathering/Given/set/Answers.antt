use Rattle.std.proofs.Common.{ap, ◌∙◌}
use Rattle.std.specs.Prelude.{Ok, Err}
use Rattle.std.proofs.lemmas.Result.{err_from_is_err_and}
use Rattle.case_words.specs.declared.keys.FlashKey.{FlashKey}
use Rattle.case_words.specs.Jobs.{with_value, with_needed}
use Rattle.case_words.specs.Views.{gathered_of}
use Rattle.case_words.proofs.Steps.{value-needed, value-kappa, answers-fault, answers-same}
use Rattle.case_words.proofs.gathering.Given.set.Goals as goal

pub returns-in-Needed : goal.returns-in-Needed
returns-in-Needed c =
    answers-same _ (with_value c.args.place c.args.by (gathered_of c.args.self.now) c.args.key c.args.value.now)
    (with_needed c.args.place c.args.by (gathered_of c.args.self.now) c.in-Needed.key c.args.value.now) c.set_needed.result
    (ap (λ (k : FlashKey). with_value c.args.place c.args.by (gathered_of c.args.self.now) k c.args.value.now) c.in-Needed.is
    ∙ value-needed c.args.place c.args.by (gathered_of c.args.self.now) c.in-Needed.key c.args.value.now)
    c.set_needed.ensures

pub returns-in_err-read_edition-in-Kappa : goal.returns-in_err-read_edition-in-Kappa
returns-in_err-read_edition-in-Kappa c =
    let p = err_from_is_err_and c.from_residual.result c.from_residual.ensures.1 in
    answers-fault _ (with_value c.args.place c.args.by (gathered_of c.args.self.now) c.args.key c.args.value.now) c.from_residual.result c.in_err-read_edition-in-Kappa.field-0.0 (p.1 ∙ ap Err p.2)
    (ap (λ (k : FlashKey). with_value c.args.place c.args.by (gathered_of c.args.self.now) k c.args.value.now) c.in-Kappa.is
    ∙ value-kappa c.args.place c.args.by (gathered_of c.args.self.now) c.args.value.now (Err c.in_err-read_edition-in-Kappa.field-0.0) c.in_err-read_edition-in-Kappa.ensures)

pub returns-in_ok-read_edition-in-Kappa : goal.returns-in_ok-read_edition-in-Kappa
returns-in_ok-read_edition-in-Kappa c =
    ap (λ (k : FlashKey). with_value c.args.place c.args.by (gathered_of c.args.self.now) k c.args.value.now) c.in-Kappa.is
    ∙ value-kappa c.args.place c.args.by (gathered_of c.args.self.now) c.args.value.now (Ok c.in_ok-read_edition-in-Kappa.field-0) c.in_ok-read_edition-in-Kappa.ensures
