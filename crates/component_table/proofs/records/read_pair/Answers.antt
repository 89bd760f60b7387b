use Rattle.std.proofs.Common.{ap, sym, ◌∙◌, Ok, Err, ℤ}
use Rattle.std.proofs.lemmas.Result.{err_from_is_err_and}
use Rattle.csv.specs.Records.{fields_of}
use Rattle.case_words.specs.Names.{text_of}
use Rattle.case_words.proofs.Exports.{answers-fault}
use Rattle.component_table.specs.Records.{pair_of, PlainPair}
use Rattle.component_table.specs.Views.{plain_record}
use Rattle.component_table.proofs.Signed.{written-back}
use Rattle.component_table.proofs.ByKind.{k_at, name_at, nothing_at, pair-first, pair-second, pair-k, pair-fifth, pair-sixth, pair-good}
use Rattle.component_table.proofs.records.read_pair.Goals as goal

pub returns-in_err-first : goal.returns-in_err-first
returns-in_err-first c =
    let p = err_from_is_err_and c.from_residual.result c.from_residual.ensures.1 in
    answers-fault plain_record (pair_of c.args.n (fields_of c.args.fields.now)) c.from_residual.result c.in_err-first.field-0.0 (p.1 ∙ ap Err p.2)
    (pair-first c.args.n (fields_of c.args.fields.now) c.in_err-first.field-0.0
    (ap (name_at c.args.n 2) (sym c.field_of.ensures) ∙ c.in_err-first.ensures))

pub returns-in_err-second : goal.returns-in_err-second
returns-in_err-second c =
    let p = err_from_is_err_and c.from_residual-in_err-second.result c.from_residual-in_err-second.ensures.1 in
    answers-fault plain_record (pair_of c.args.n (fields_of c.args.fields.now)) c.from_residual-in_err-second.result c.in_err-second.field-0.0 (p.1 ∙ ap Err p.2)
    (pair-second c.args.n (fields_of c.args.fields.now) (text_of c.in_ok-first.first) c.in_err-second.field-0.0
    (ap (name_at c.args.n 2) (sym c.field_of.ensures) ∙ c.in_ok-first.ensures)
    (ap (name_at c.args.n 3) (sym c.field_of-2.ensures) ∙ c.in_err-second.ensures))

pub returns-in_err-k : goal.returns-in_err-k
returns-in_err-k c =
    let p = err_from_is_err_and c.from_residual-in_err-k.result c.from_residual-in_err-k.ensures.1 in
    answers-fault plain_record (pair_of c.args.n (fields_of c.args.fields.now)) c.from_residual-in_err-k.result c.in_err-k.field-0.0 (p.1 ∙ ap Err p.2)
    (pair-k c.args.n (fields_of c.args.fields.now) (text_of c.in_ok-first.first) (text_of c.in_ok-second.second) c.in_err-k.field-0.0
    (ap (name_at c.args.n 2) (sym c.field_of.ensures) ∙ c.in_ok-first.ensures)
    (ap (name_at c.args.n 3) (sym c.field_of-2.ensures) ∙ c.in_ok-second.ensures)
    (ap (k_at c.args.n) (sym c.field_of-3.ensures) ∙ c.in_err-k.ensures.exact))

pub returns-in_err-take_nothing : goal.returns-in_err-take_nothing
returns-in_err-take_nothing c =
    let p = err_from_is_err_and c.from_residual-in_err-take_nothing.result c.from_residual-in_err-take_nothing.ensures.1 in
    answers-fault plain_record (pair_of c.args.n (fields_of c.args.fields.now)) c.from_residual-in_err-take_nothing.result c.in_err-take_nothing.field-0.0 (p.1 ∙ ap Err p.2)
    (pair-fifth c.args.n (fields_of c.args.fields.now) (text_of c.in_ok-first.first) (text_of c.in_ok-second.second) c.in_ok-k.k c.in_err-take_nothing.field-0.0
    (ap (name_at c.args.n 2) (sym c.field_of.ensures) ∙ c.in_ok-first.ensures)
    (ap (name_at c.args.n 3) (sym c.field_of-2.ensures) ∙ c.in_ok-second.ensures)
    (ap (k_at c.args.n) (sym c.field_of-3.ensures) ∙ c.in_ok-k.ensures.exact)
    (ap (nothing_at c.args.n 5) (sym c.field_of-4.ensures) ∙ c.in_err-take_nothing.ensures))

pub returns-in_err-take_nothing-2 : goal.returns-in_err-take_nothing-2
returns-in_err-take_nothing-2 c =
    let p = err_from_is_err_and c.from_residual-in_err-take_nothing-2.result c.from_residual-in_err-take_nothing-2.ensures.1 in
    answers-fault plain_record (pair_of c.args.n (fields_of c.args.fields.now)) c.from_residual-in_err-take_nothing-2.result c.in_err-take_nothing-2.field-0.0 (p.1 ∙ ap Err p.2)
    (pair-sixth c.args.n (fields_of c.args.fields.now) (text_of c.in_ok-first.first) (text_of c.in_ok-second.second) c.in_ok-k.k tt c.in_err-take_nothing-2.field-0.0
    (ap (name_at c.args.n 2) (sym c.field_of.ensures) ∙ c.in_ok-first.ensures)
    (ap (name_at c.args.n 3) (sym c.field_of-2.ensures) ∙ c.in_ok-second.ensures)
    (ap (k_at c.args.n) (sym c.field_of-3.ensures) ∙ c.in_ok-k.ensures.exact)
    (ap (nothing_at c.args.n 5) (sym c.field_of-4.ensures) ∙ c.in_ok-take_nothing.ensures)
    (ap (nothing_at c.args.n 6) (sym c.field_of-5.ensures) ∙ c.in_err-take_nothing-2.ensures))

pub returns : goal.returns
returns c =
    pair-good c.args.n (fields_of c.args.fields.now) (text_of c.in_ok-first.first) (text_of c.in_ok-second.second) c.in_ok-k.k tt tt
    (ap (name_at c.args.n 2) (sym c.field_of.ensures) ∙ c.in_ok-first.ensures)
    (ap (name_at c.args.n 3) (sym c.field_of-2.ensures) ∙ c.in_ok-second.ensures)
    (ap (k_at c.args.n) (sym c.field_of-3.ensures) ∙ c.in_ok-k.ensures.exact)
    (ap (nothing_at c.args.n 5) (sym c.field_of-4.ensures) ∙ c.in_ok-take_nothing.ensures)
    (ap (nothing_at c.args.n 6) (sym c.field_of-5.ensures) ∙ c.in_ok-take_nothing-2.ensures)
    ∙ ap (λ (k : ℤ). Ok (PlainPair (text_of c.in_ok-first.first) (text_of c.in_ok-second.second) k)) (sym (written-back c.in_ok-k.k c.in_ok-k.ensures.small))
