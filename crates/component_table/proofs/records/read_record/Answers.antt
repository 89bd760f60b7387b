use Rattle.std.proofs.Common.{ℕ, List, sym, ap, ◌∙◌}
use Rattle.std.specs.Prelude.{codes}
use Rattle.std.specs.Str.{bytes_eq}
use Rattle.csv.specs.Records.{fields_of}
use Rattle.case_words.proofs.Exports.{answers-same}
use Rattle.component_table.specs.Records.{record_of, comp_of, pair_of, cp_of}
use Rattle.component_table.specs.Views.{plain_record}
use Rattle.component_table.proofs.Taking.{record-fields, record-utf8, record-comp, record-pair, record-cp, record-kind}
use Rattle.component_table.proofs.records.read_record.Goals as goal

pub returns-then-len-ne6 : goal.returns-then-len-ne6
returns-then-len-ne6 c = record-fields c.args.n (fields_of c.args.fields.now) (λ e. c.if-len-ne6.true (c.len.ensures ∙ e))

pub returns-then-not-is_text : goal.returns-then-not-is_text
returns-then-not-is_text c = record-utf8 c.args.n (fields_of c.args.fields.now) (sym c.len.ensures ∙ c.if-len-ne6.false) (sym c.if-not-is_text.ensures)

pub returns-then-eq : goal.returns-then-eq
returns-then-eq c =
    let six = sym c.len.ensures ∙ c.if-len-ne6.false in
    let text = sym c.if-not-is_text.ensures in
    answers-same plain_record (record_of c.args.n (fields_of c.args.fields.now)) (comp_of c.args.n (fields_of c.args.fields.now)) c.read_comp.result
    (record-comp c.args.n (fields_of c.args.fields.now) six text (ap (λ (t : List ℕ). bytes_eq t (codes "comp")) (sym c.field_of-kind.ensures) ∙ sym (rw c.as_slice.ensures at c.if-eq.ensures)))
    c.read_comp.ensures

pub returns-then-eq-2 : goal.returns-then-eq-2
returns-then-eq-2 c =
    let six = sym c.len.ensures ∙ c.if-len-ne6.false in
    let text = sym c.if-not-is_text.ensures in
    answers-same plain_record (record_of c.args.n (fields_of c.args.fields.now)) (pair_of c.args.n (fields_of c.args.fields.now)) c.read_pair.result
    (record-pair c.args.n (fields_of c.args.fields.now) six text (ap (λ (t : List ℕ). bytes_eq t (codes "comp")) (sym c.field_of-kind.ensures) ∙ sym (rw c.as_slice.ensures at c.if-eq.ensures))
    (ap (λ (t : List ℕ). bytes_eq t (codes "k")) (sym c.field_of-kind.ensures) ∙ sym (rw c.as_slice-else-eq.ensures at c.if-eq-2.ensures)))
    c.read_pair.ensures

pub returns-then-eq-3 : goal.returns-then-eq-3
returns-then-eq-3 c =
    let six = sym c.len.ensures ∙ c.if-len-ne6.false in
    let text = sym c.if-not-is_text.ensures in
    answers-same plain_record (record_of c.args.n (fields_of c.args.fields.now)) (cp_of c.args.n (fields_of c.args.fields.now)) c.read_cp.result
    (record-cp c.args.n (fields_of c.args.fields.now) six text (ap (λ (t : List ℕ). bytes_eq t (codes "comp")) (sym c.field_of-kind.ensures) ∙ sym (rw c.as_slice.ensures at c.if-eq.ensures))
    (ap (λ (t : List ℕ). bytes_eq t (codes "k")) (sym c.field_of-kind.ensures) ∙ sym (rw c.as_slice-else-eq.ensures at c.if-eq-2.ensures))
    (ap (λ (t : List ℕ). bytes_eq t (codes "cp")) (sym c.field_of-kind.ensures) ∙ sym (rw c.as_slice-else-eq-2.ensures at c.if-eq-3.ensures)))
    c.read_cp.ensures

pub returns-else-eq-3 : goal.returns-else-eq-3
returns-else-eq-3 c =
    let six = sym c.len.ensures ∙ c.if-len-ne6.false in
    let text = sym c.if-not-is_text.ensures in
    record-kind c.args.n (fields_of c.args.fields.now) six text (ap (λ (t : List ℕ). bytes_eq t (codes "comp")) (sym c.field_of-kind.ensures) ∙ sym (rw c.as_slice.ensures at c.if-eq.ensures))
    (ap (λ (t : List ℕ). bytes_eq t (codes "k")) (sym c.field_of-kind.ensures) ∙ sym (rw c.as_slice-else-eq.ensures at c.if-eq-2.ensures))
    (ap (λ (t : List ℕ). bytes_eq t (codes "cp")) (sym c.field_of-kind.ensures) ∙ sym (rw c.as_slice-else-eq-2.ensures at c.if-eq-3.ensures))
