use Rattle.std.proofs.Common.{ap, map, ◌∙◌}
use Rattle.std.specs.Prelude.{Ok, Err}
use Rattle.std.proofs.lemmas.Result.{err_from_is_err_and}
use Rattle.case_words.specs.declared.keys.Key.{Key}
use Rattle.case_words.specs.Names.{text_of}
use Rattle.case_words.specs.Jobs.{with_needed}
use Rattle.case_words.specs.Views.{gathered_of}
use Rattle.case_words.proofs.Steps.{value-t, value-p, value-lo, value-hi, value-width, value-z, value-names, value-tol, value-budget, answers-fault}
use Rattle.case_words.proofs.gathering.Given.set_needed.Goals as goal

pub returns-in_err-read_quantity-in-T : goal.returns-in_err-read_quantity-in-T
returns-in_err-read_quantity-in-T c =
    let p = err_from_is_err_and c.from_residual.result c.from_residual.ensures.1 in
    answers-fault _ (with_needed c.args.place c.args.by (gathered_of c.args.self.now) c.args.key c.args.value.now) c.from_residual.result c.in_err-read_quantity-in-T.field-0.0 (p.1 ∙ ap Err p.2)
    (ap (λ (k : Key). with_needed c.args.place c.args.by (gathered_of c.args.self.now) k c.args.value.now) c.in-T.is
    ∙ value-t c.args.place c.args.by (gathered_of c.args.self.now) c.args.value.now (Err c.in_err-read_quantity-in-T.field-0.0) c.in_err-read_quantity-in-T.ensures)

pub returns-in_ok-read_quantity-in-T : goal.returns-in_ok-read_quantity-in-T
returns-in_ok-read_quantity-in-T c =
    ap (λ (k : Key). with_needed c.args.place c.args.by (gathered_of c.args.self.now) k c.args.value.now) c.in-T.is
    ∙ value-t c.args.place c.args.by (gathered_of c.args.self.now) c.args.value.now (Ok c.in_ok-read_quantity-in-T.field-0) c.in_ok-read_quantity-in-T.ensures

pub returns-in_err-read_quantity-in-P : goal.returns-in_err-read_quantity-in-P
returns-in_err-read_quantity-in-P c =
    let p = err_from_is_err_and c.from_residual-in_err-read_quantity-in-P.result c.from_residual-in_err-read_quantity-in-P.ensures.1 in
    answers-fault _ (with_needed c.args.place c.args.by (gathered_of c.args.self.now) c.args.key c.args.value.now) c.from_residual-in_err-read_quantity-in-P.result c.in_err-read_quantity-in-P.field-0.0 (p.1 ∙ ap Err p.2)
    (ap (λ (k : Key). with_needed c.args.place c.args.by (gathered_of c.args.self.now) k c.args.value.now) c.in-P.is
    ∙ value-p c.args.place c.args.by (gathered_of c.args.self.now) c.args.value.now (Err c.in_err-read_quantity-in-P.field-0.0) c.in_err-read_quantity-in-P.ensures)

pub returns-in_ok-read_quantity-in-P : goal.returns-in_ok-read_quantity-in-P
returns-in_ok-read_quantity-in-P c =
    ap (λ (k : Key). with_needed c.args.place c.args.by (gathered_of c.args.self.now) k c.args.value.now) c.in-P.is
    ∙ value-p c.args.place c.args.by (gathered_of c.args.self.now) c.args.value.now (Ok c.in_ok-read_quantity-in-P.field-0) c.in_ok-read_quantity-in-P.ensures

pub returns-in_err-lower_end-in-Lo : goal.returns-in_err-lower_end-in-Lo
returns-in_err-lower_end-in-Lo c =
    let p = err_from_is_err_and c.from_residual-in_err-lower_end-in-Lo.result c.from_residual-in_err-lower_end-in-Lo.ensures.1 in
    answers-fault _ (with_needed c.args.place c.args.by (gathered_of c.args.self.now) c.args.key c.args.value.now) c.from_residual-in_err-lower_end-in-Lo.result c.in_err-lower_end-in-Lo.field-0.0 (p.1 ∙ ap Err p.2)
    (ap (λ (k : Key). with_needed c.args.place c.args.by (gathered_of c.args.self.now) k c.args.value.now) c.in-Lo.is
    ∙ value-lo c.args.place c.args.by (gathered_of c.args.self.now) c.args.value.now (Err c.in_err-lower_end-in-Lo.field-0.0) c.in_err-lower_end-in-Lo.ensures)

pub returns-in_ok-lower_end-in-Lo : goal.returns-in_ok-lower_end-in-Lo
returns-in_ok-lower_end-in-Lo c =
    ap (λ (k : Key). with_needed c.args.place c.args.by (gathered_of c.args.self.now) k c.args.value.now) c.in-Lo.is
    ∙ value-lo c.args.place c.args.by (gathered_of c.args.self.now) c.args.value.now (Ok c.in_ok-lower_end-in-Lo.field-0) c.in_ok-lower_end-in-Lo.ensures

pub returns-in_err-upper_end-in-Hi : goal.returns-in_err-upper_end-in-Hi
returns-in_err-upper_end-in-Hi c =
    let p = err_from_is_err_and c.from_residual-in_err-upper_end-in-Hi.result c.from_residual-in_err-upper_end-in-Hi.ensures.1 in
    answers-fault _ (with_needed c.args.place c.args.by (gathered_of c.args.self.now) c.args.key c.args.value.now) c.from_residual-in_err-upper_end-in-Hi.result c.in_err-upper_end-in-Hi.field-0.0 (p.1 ∙ ap Err p.2)
    (ap (λ (k : Key). with_needed c.args.place c.args.by (gathered_of c.args.self.now) k c.args.value.now) c.in-Hi.is
    ∙ value-hi c.args.place c.args.by (gathered_of c.args.self.now) c.args.value.now (Err c.in_err-upper_end-in-Hi.field-0.0) c.in_err-upper_end-in-Hi.ensures)

pub returns-in_ok-upper_end-in-Hi : goal.returns-in_ok-upper_end-in-Hi
returns-in_ok-upper_end-in-Hi c =
    ap (λ (k : Key). with_needed c.args.place c.args.by (gathered_of c.args.self.now) k c.args.value.now) c.in-Hi.is
    ∙ value-hi c.args.place c.args.by (gathered_of c.args.self.now) c.args.value.now (Ok c.in_ok-upper_end-in-Hi.field-0) c.in_ok-upper_end-in-Hi.ensures

pub returns-in_err-read_width-in-Width : goal.returns-in_err-read_width-in-Width
returns-in_err-read_width-in-Width c =
    let p = err_from_is_err_and c.from_residual-in_err-read_width-in-Width.result c.from_residual-in_err-read_width-in-Width.ensures.1 in
    answers-fault _ (with_needed c.args.place c.args.by (gathered_of c.args.self.now) c.args.key c.args.value.now) c.from_residual-in_err-read_width-in-Width.result c.in_err-read_width-in-Width.field-0.0 (p.1 ∙ ap Err p.2)
    (ap (λ (k : Key). with_needed c.args.place c.args.by (gathered_of c.args.self.now) k c.args.value.now) c.in-Width.is
    ∙ value-width c.args.place c.args.by (gathered_of c.args.self.now) c.args.value.now (Err c.in_err-read_width-in-Width.field-0.0) c.in_err-read_width-in-Width.ensures)

pub returns-in_ok-read_width-in-Width : goal.returns-in_ok-read_width-in-Width
returns-in_ok-read_width-in-Width c =
    ap (λ (k : Key). with_needed c.args.place c.args.by (gathered_of c.args.self.now) k c.args.value.now) c.in-Width.is
    ∙ value-width c.args.place c.args.by (gathered_of c.args.self.now) c.args.value.now (Ok c.in_ok-read_width-in-Width.field-0) c.in_ok-read_width-in-Width.ensures

pub returns-in_err-feed-in-Z : goal.returns-in_err-feed-in-Z
returns-in_err-feed-in-Z c =
    let p = err_from_is_err_and c.from_residual-in_err-feed-in-Z.result c.from_residual-in_err-feed-in-Z.ensures.1 in
    answers-fault _ (with_needed c.args.place c.args.by (gathered_of c.args.self.now) c.args.key c.args.value.now) c.from_residual-in_err-feed-in-Z.result c.in_err-feed-in-Z.field-0.0 (p.1 ∙ ap Err p.2)
    (ap (λ (k : Key). with_needed c.args.place c.args.by (gathered_of c.args.self.now) k c.args.value.now) c.in-Z.is
    ∙ value-z c.args.place c.args.by (gathered_of c.args.self.now) c.args.value.now (Err c.in_err-feed-in-Z.field-0.0) c.in_err-feed-in-Z.ensures)

pub returns-in_ok-feed-in-Z : goal.returns-in_ok-feed-in-Z
returns-in_ok-feed-in-Z c =
    ap (λ (k : Key). with_needed c.args.place c.args.by (gathered_of c.args.self.now) k c.args.value.now) c.in-Z.is
    ∙ value-z c.args.place c.args.by (gathered_of c.args.self.now) c.args.value.now (Ok c.in_ok-feed-in-Z.field-0.items) c.in_ok-feed-in-Z.ensures

pub returns-in_err-called-in-Names : goal.returns-in_err-called-in-Names
returns-in_err-called-in-Names c =
    let p = err_from_is_err_and c.from_residual-in_err-called-in-Names.result c.from_residual-in_err-called-in-Names.ensures.1 in
    answers-fault _ (with_needed c.args.place c.args.by (gathered_of c.args.self.now) c.args.key c.args.value.now) c.from_residual-in_err-called-in-Names.result c.in_err-called-in-Names.field-0.0 (p.1 ∙ ap Err p.2)
    (ap (λ (k : Key). with_needed c.args.place c.args.by (gathered_of c.args.self.now) k c.args.value.now) c.in-Names.is
    ∙ value-names c.args.place c.args.by (gathered_of c.args.self.now) c.args.value.now (Err c.in_err-called-in-Names.field-0.0) c.in_err-called-in-Names.ensures)

pub returns-in_ok-called-in-Names : goal.returns-in_ok-called-in-Names
returns-in_ok-called-in-Names c =
    ap (λ (k : Key). with_needed c.args.place c.args.by (gathered_of c.args.self.now) k c.args.value.now) c.in-Names.is
    ∙ value-names c.args.place c.args.by (gathered_of c.args.self.now) c.args.value.now (Ok (map text_of c.in_ok-called-in-Names.field-0.items)) c.in_ok-called-in-Names.ensures

pub returns-in_err-read_number-in-Tol : goal.returns-in_err-read_number-in-Tol
returns-in_err-read_number-in-Tol c =
    let p = err_from_is_err_and c.from_residual-in_err-read_number-in-Tol.result c.from_residual-in_err-read_number-in-Tol.ensures.1 in
    answers-fault _ (with_needed c.args.place c.args.by (gathered_of c.args.self.now) c.args.key c.args.value.now) c.from_residual-in_err-read_number-in-Tol.result c.in_err-read_number-in-Tol.field-0.0 (p.1 ∙ ap Err p.2)
    (ap (λ (k : Key). with_needed c.args.place c.args.by (gathered_of c.args.self.now) k c.args.value.now) c.in-Tol.is
    ∙ value-tol c.args.place c.args.by (gathered_of c.args.self.now) c.args.value.now (Err c.in_err-read_number-in-Tol.field-0.0) c.in_err-read_number-in-Tol.ensures.exact)

pub returns-in_ok-read_number-in-Tol : goal.returns-in_ok-read_number-in-Tol
returns-in_ok-read_number-in-Tol c =
    ap (λ (k : Key). with_needed c.args.place c.args.by (gathered_of c.args.self.now) k c.args.value.now) c.in-Tol.is
    ∙ value-tol c.args.place c.args.by (gathered_of c.args.self.now) c.args.value.now (Ok c.in_ok-read_number-in-Tol.field-0) c.in_ok-read_number-in-Tol.ensures.exact

pub returns-in_err-read_number-in-Budget : goal.returns-in_err-read_number-in-Budget
returns-in_err-read_number-in-Budget c =
    let p = err_from_is_err_and c.from_residual-in_err-read_number-in-Budget.result c.from_residual-in_err-read_number-in-Budget.ensures.1 in
    answers-fault _ (with_needed c.args.place c.args.by (gathered_of c.args.self.now) c.args.key c.args.value.now) c.from_residual-in_err-read_number-in-Budget.result c.in_err-read_number-in-Budget.field-0.0 (p.1 ∙ ap Err p.2)
    (ap (λ (k : Key). with_needed c.args.place c.args.by (gathered_of c.args.self.now) k c.args.value.now) c.in-Budget.is
    ∙ value-budget c.args.place c.args.by (gathered_of c.args.self.now) c.args.value.now (Err c.in_err-read_number-in-Budget.field-0.0) c.in_err-read_number-in-Budget.ensures.exact)

pub returns-in_ok-read_number-in-Budget : goal.returns-in_ok-read_number-in-Budget
returns-in_ok-read_number-in-Budget c =
    ap (λ (k : Key). with_needed c.args.place c.args.by (gathered_of c.args.self.now) k c.args.value.now) c.in-Budget.is
    ∙ value-budget c.args.place c.args.by (gathered_of c.args.self.now) c.args.value.now (Ok c.in_ok-read_number-in-Budget.field-0) c.in_ok-read_number-in-Budget.ensures.exact
