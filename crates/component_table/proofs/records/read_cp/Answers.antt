use Rattle.std.proofs.Common.{ap, sym, ◌∙◌, Ok, Err, ℤ, List}
use Rattle.std.proofs.lemmas.Result.{err_from_is_err_and}
use Rattle.csv.specs.Records.{fields_of}
use Rattle.case_words.specs.Names.{text_of}
use Rattle.case_words.proofs.Exports.{answers-fault}
use Rattle.component_table.specs.Records.{cp_of, PlainCp}
use Rattle.component_table.specs.Views.{plain_record}
use Rattle.component_table.proofs.Signed.{four-back}
use Rattle.component_table.proofs.ByKind.{coefficient_at, name_at, cp-name, cp-a, cp-b, cp-c, cp-d, cp-good}
use Rattle.component_table.proofs.records.read_cp.Goals as goal

pub returns-in_err-name : goal.returns-in_err-name
returns-in_err-name c =
    let p = err_from_is_err_and c.from_residual.result c.from_residual.ensures.1 in
    answers-fault plain_record (cp_of c.args.n (fields_of c.args.fields.now)) c.from_residual.result c.in_err-name.field-0.0 (p.1 ∙ ap Err p.2)
    (cp-name c.args.n (fields_of c.args.fields.now) c.in_err-name.field-0.0
    (ap (name_at c.args.n 2) (sym c.field_of.ensures) ∙ c.in_err-name.ensures))

pub returns-in_err-a : goal.returns-in_err-a
returns-in_err-a c =
    let p = err_from_is_err_and c.from_residual-in_err-a.result c.from_residual-in_err-a.ensures.1 in
    answers-fault plain_record (cp_of c.args.n (fields_of c.args.fields.now)) c.from_residual-in_err-a.result c.in_err-a.field-0.0 (p.1 ∙ ap Err p.2)
    (cp-a c.args.n (fields_of c.args.fields.now) (text_of c.in_ok-name.name) c.in_err-a.field-0.0
    (ap (name_at c.args.n 2) (sym c.field_of.ensures) ∙ c.in_ok-name.ensures)
    (ap (coefficient_at c.args.n 3) (sym c.field_of-2.ensures) ∙ c.in_err-a.ensures.exact))

pub returns-in_err-b : goal.returns-in_err-b
returns-in_err-b c =
    let p = err_from_is_err_and c.from_residual-in_err-b.result c.from_residual-in_err-b.ensures.1 in
    answers-fault plain_record (cp_of c.args.n (fields_of c.args.fields.now)) c.from_residual-in_err-b.result c.in_err-b.field-0.0 (p.1 ∙ ap Err p.2)
    (cp-b c.args.n (fields_of c.args.fields.now) (text_of c.in_ok-name.name) c.in_ok-a.a c.in_err-b.field-0.0
    (ap (name_at c.args.n 2) (sym c.field_of.ensures) ∙ c.in_ok-name.ensures)
    (ap (coefficient_at c.args.n 3) (sym c.field_of-2.ensures) ∙ c.in_ok-a.ensures.exact)
    (ap (coefficient_at c.args.n 4) (sym c.field_of-3.ensures) ∙ c.in_err-b.ensures.exact))

pub returns-in_err-c : goal.returns-in_err-c
returns-in_err-c c =
    let p = err_from_is_err_and c.from_residual-in_err-c.result c.from_residual-in_err-c.ensures.1 in
    answers-fault plain_record (cp_of c.args.n (fields_of c.args.fields.now)) c.from_residual-in_err-c.result c.in_err-c.field-0.0 (p.1 ∙ ap Err p.2)
    (cp-c c.args.n (fields_of c.args.fields.now) (text_of c.in_ok-name.name) c.in_ok-a.a c.in_ok-b.b c.in_err-c.field-0.0
    (ap (name_at c.args.n 2) (sym c.field_of.ensures) ∙ c.in_ok-name.ensures)
    (ap (coefficient_at c.args.n 3) (sym c.field_of-2.ensures) ∙ c.in_ok-a.ensures.exact)
    (ap (coefficient_at c.args.n 4) (sym c.field_of-3.ensures) ∙ c.in_ok-b.ensures.exact)
    (ap (coefficient_at c.args.n 5) (sym c.field_of-4.ensures) ∙ c.in_err-c.ensures.exact))

pub returns-in_err-d : goal.returns-in_err-d
returns-in_err-d c =
    let p = err_from_is_err_and c.from_residual-in_err-d.result c.from_residual-in_err-d.ensures.1 in
    answers-fault plain_record (cp_of c.args.n (fields_of c.args.fields.now)) c.from_residual-in_err-d.result c.in_err-d.field-0.0 (p.1 ∙ ap Err p.2)
    (cp-d c.args.n (fields_of c.args.fields.now) (text_of c.in_ok-name.name) c.in_ok-a.a c.in_ok-b.b c.in_ok-c.c c.in_err-d.field-0.0
    (ap (name_at c.args.n 2) (sym c.field_of.ensures) ∙ c.in_ok-name.ensures)
    (ap (coefficient_at c.args.n 3) (sym c.field_of-2.ensures) ∙ c.in_ok-a.ensures.exact)
    (ap (coefficient_at c.args.n 4) (sym c.field_of-3.ensures) ∙ c.in_ok-b.ensures.exact)
    (ap (coefficient_at c.args.n 5) (sym c.field_of-4.ensures) ∙ c.in_ok-c.ensures.exact)
    (ap (coefficient_at c.args.n 6) (sym c.field_of-5.ensures) ∙ c.in_err-d.ensures.exact))

pub returns : goal.returns
returns c =
    cp-good c.args.n (fields_of c.args.fields.now) (text_of c.in_ok-name.name) c.in_ok-a.a c.in_ok-b.b c.in_ok-c.c c.in_ok-d.d
    (ap (name_at c.args.n 2) (sym c.field_of.ensures) ∙ c.in_ok-name.ensures)
    (ap (coefficient_at c.args.n 3) (sym c.field_of-2.ensures) ∙ c.in_ok-a.ensures.exact)
    (ap (coefficient_at c.args.n 4) (sym c.field_of-3.ensures) ∙ c.in_ok-b.ensures.exact)
    (ap (coefficient_at c.args.n 5) (sym c.field_of-4.ensures) ∙ c.in_ok-c.ensures.exact)
    (ap (coefficient_at c.args.n 6) (sym c.field_of-5.ensures) ∙ c.in_ok-d.ensures.exact)
    ∙ ap (λ (cp : List ℤ). Ok (PlainCp (text_of c.in_ok-name.name) cp))
    (sym (four-back c.in_ok-a.a c.in_ok-b.b c.in_ok-c.c c.in_ok-d.d c.in_ok-a.ensures.small c.in_ok-b.ensures.small c.in_ok-c.ensures.small c.in_ok-d.ensures.small))
