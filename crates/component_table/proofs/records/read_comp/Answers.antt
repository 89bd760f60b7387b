use Rattle.std.proofs.Common.{ap, sym, ◌∙◌, Ok, Err, ℤ}
use Rattle.std.proofs.lemmas.Result.{err_from_is_err_and}
use Rattle.csv.specs.Records.{fields_of}
use Rattle.case_words.specs.Names.{text_of}
use Rattle.case_words.proofs.Exports.{answers-fault}
use Rattle.component_table.specs.Records.{comp_of, PlainComp}
use Rattle.component_table.specs.Views.{plain_record}
use Rattle.component_table.proofs.Signed.{written-back}
use Rattle.component_table.proofs.ByKind.{name_at, nothing_at, pc_at, tc_at, w_at, comp-name, comp-tc, comp-pc, comp-w, comp-end, comp-good}
use Rattle.component_table.proofs.records.read_comp.Goals as goal

pub returns-in_err-name : goal.returns-in_err-name
returns-in_err-name c =
    let p = err_from_is_err_and c.from_residual.result c.from_residual.ensures.1 in
    answers-fault plain_record (comp_of c.args.n (fields_of c.args.fields.now)) c.from_residual.result c.in_err-name.field-0.0 (p.1 ∙ ap Err p.2)
    (comp-name c.args.n (fields_of c.args.fields.now) c.in_err-name.field-0.0
    (ap (name_at c.args.n 2) (sym c.field_of.ensures) ∙ c.in_err-name.ensures))

pub returns-in_err-tc : goal.returns-in_err-tc
returns-in_err-tc c =
    let p = err_from_is_err_and c.from_residual-in_err-tc.result c.from_residual-in_err-tc.ensures.1 in
    answers-fault plain_record (comp_of c.args.n (fields_of c.args.fields.now)) c.from_residual-in_err-tc.result c.in_err-tc.field-0.0 (p.1 ∙ ap Err p.2)
    (comp-tc c.args.n (fields_of c.args.fields.now) (text_of c.in_ok-name.name) c.in_err-tc.field-0.0
    (ap (name_at c.args.n 2) (sym c.field_of.ensures) ∙ c.in_ok-name.ensures)
    (ap (tc_at c.args.n) (sym c.field_of-2.ensures) ∙ c.in_err-tc.ensures))

pub returns-in_err-pc : goal.returns-in_err-pc
returns-in_err-pc c =
    let p = err_from_is_err_and c.from_residual-in_err-pc.result c.from_residual-in_err-pc.ensures.1 in
    answers-fault plain_record (comp_of c.args.n (fields_of c.args.fields.now)) c.from_residual-in_err-pc.result c.in_err-pc.field-0.0 (p.1 ∙ ap Err p.2)
    (comp-pc c.args.n (fields_of c.args.fields.now) (text_of c.in_ok-name.name) c.in_ok-tc.tc c.in_err-pc.field-0.0
    (ap (name_at c.args.n 2) (sym c.field_of.ensures) ∙ c.in_ok-name.ensures)
    (ap (tc_at c.args.n) (sym c.field_of-2.ensures) ∙ c.in_ok-tc.ensures)
    (ap (pc_at c.args.n) (sym c.field_of-3.ensures) ∙ c.in_err-pc.ensures))

pub returns-in_err-w : goal.returns-in_err-w
returns-in_err-w c =
    let p = err_from_is_err_and c.from_residual-in_err-w.result c.from_residual-in_err-w.ensures.1 in
    answers-fault plain_record (comp_of c.args.n (fields_of c.args.fields.now)) c.from_residual-in_err-w.result c.in_err-w.field-0.0 (p.1 ∙ ap Err p.2)
    (comp-w c.args.n (fields_of c.args.fields.now) (text_of c.in_ok-name.name) c.in_ok-tc.tc c.in_ok-pc.pc c.in_err-w.field-0.0
    (ap (name_at c.args.n 2) (sym c.field_of.ensures) ∙ c.in_ok-name.ensures)
    (ap (tc_at c.args.n) (sym c.field_of-2.ensures) ∙ c.in_ok-tc.ensures)
    (ap (pc_at c.args.n) (sym c.field_of-3.ensures) ∙ c.in_ok-pc.ensures)
    (ap (w_at c.args.n) (sym c.field_of-4.ensures) ∙ c.in_err-w.ensures.exact))

pub returns-in_err-take_nothing : goal.returns-in_err-take_nothing
returns-in_err-take_nothing c =
    let p = err_from_is_err_and c.from_residual-in_err-take_nothing.result c.from_residual-in_err-take_nothing.ensures.1 in
    answers-fault plain_record (comp_of c.args.n (fields_of c.args.fields.now)) c.from_residual-in_err-take_nothing.result c.in_err-take_nothing.field-0.0 (p.1 ∙ ap Err p.2)
    (comp-end c.args.n (fields_of c.args.fields.now) (text_of c.in_ok-name.name) c.in_ok-tc.tc c.in_ok-pc.pc c.in_ok-w.w c.in_err-take_nothing.field-0.0
    (ap (name_at c.args.n 2) (sym c.field_of.ensures) ∙ c.in_ok-name.ensures)
    (ap (tc_at c.args.n) (sym c.field_of-2.ensures) ∙ c.in_ok-tc.ensures)
    (ap (pc_at c.args.n) (sym c.field_of-3.ensures) ∙ c.in_ok-pc.ensures)
    (ap (w_at c.args.n) (sym c.field_of-4.ensures) ∙ c.in_ok-w.ensures.exact)
    (ap (nothing_at c.args.n 6) (sym c.field_of-5.ensures) ∙ c.in_err-take_nothing.ensures))

pub returns : goal.returns
returns c =
    comp-good c.args.n (fields_of c.args.fields.now) (text_of c.in_ok-name.name) c.in_ok-tc.tc c.in_ok-pc.pc c.in_ok-w.w tt
    (ap (name_at c.args.n 2) (sym c.field_of.ensures) ∙ c.in_ok-name.ensures)
    (ap (tc_at c.args.n) (sym c.field_of-2.ensures) ∙ c.in_ok-tc.ensures)
    (ap (pc_at c.args.n) (sym c.field_of-3.ensures) ∙ c.in_ok-pc.ensures)
    (ap (w_at c.args.n) (sym c.field_of-4.ensures) ∙ c.in_ok-w.ensures.exact)
    (ap (nothing_at c.args.n 6) (sym c.field_of-5.ensures) ∙ c.in_ok-take_nothing.ensures)
    ∙ ap (λ (w : ℤ). Ok (PlainComp (record { name = text_of c.in_ok-name.name; tc = c.in_ok-tc.tc; pc = c.in_ok-pc.pc; w = w }))) (sym (written-back c.in_ok-w.w c.in_ok-w.ensures.small))
