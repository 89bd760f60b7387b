use Rattle.std.proofs.Common.{◌≡◌, false, rules, ap, ◌∙◌}
use Rattle.std.specs.Prelude.{Ok, Err, ◌==◌}
use Rattle.std.proofs.lemmas.Result.{err_from_is_err_and}
use Rattle.case_words.specs.Items.{edition_of, edition_by}
use Rattle.case_words.proofs.Ranged.{edition-read, edition-neither}
use Rattle.case_words.proofs.Steps.{answers-fault}
use Rattle.case_words.proofs.items.read_edition.Goals as goal

pub returns-in_err-year : goal.returns-in_err-year
returns-in_err-year c =
    let p = err_from_is_err_and c.from_residual.result c.from_residual.ensures.1 in
    answers-fault _ (edition_of c.args.place c.args.text.now) c.from_residual.result c.in_err-year.field-0.0 (p.1 ∙ ap Err p.2)
    (edition-read c.args.place c.args.text.now (Err c.in_err-year.field-0.0) c.in_err-year.ensures.exact)

pub returns-then-year-eq76 : goal.returns-then-year-eq76
returns-then-year-eq76 c =
    edition-read c.args.place c.args.text.now (Ok c.in_ok-year.year) c.in_ok-year.ensures.exact ∙ ap (edition_by c.args.place) c.if-year-eq76.true

pub returns-then-year-eq78 : goal.returns-then-year-eq78
returns-then-year-eq78 c =
    edition-read c.args.place c.args.text.now (Ok c.in_ok-year.year) c.in_ok-year.ensures.exact ∙ ap (edition_by c.args.place) c.if-year-eq78.true

pub returns-else-year-eq78 : goal.returns-else-year-eq78
returns-else-year-eq78 c =
    let first : (c.in_ok-year.year == 76) ≡ false = search rules in
    let second : (c.in_ok-year.year == 78) ≡ false = search rules in
    edition-read c.args.place c.args.text.now (Ok c.in_ok-year.year) c.in_ok-year.ensures.exact
    ∙ edition-neither c.args.place c.in_ok-year.year first second
