use Rattle.std.proofs.Common.{◌≡◌, List, length, map, arith, sym, ap, ◌∙◌, Ok, vec_len}
use Rattle.std.proofs.lemmas.List.{map_push, length-map}
use Rattle.case_types.specs.declared.cases.Row.{Row}
use Rattle.case_words.specs.Names.{text_of}
use Rattle.component_table.specs.Records.{PlainRow}
use Rattle.component_table.specs.Tables.{index_in}
use Rattle.component_table.specs.Rows.{plain_row}
use Rattle.component_table.specs.Views.{drafted}
use Rattle.component_table.proofs.Taking.{comp-stands, comp-full, comp-taken}
use Rattle.component_table.proofs.draft.Draft.take_comp.Goals as goal

pub returns-then-index_of-len-clause-fault : goal.returns-then-index_of-len-clause-fault
returns-then-index_of-len-clause-fault c =
    let rows = c.args.self.now.comps.items in
    let many : length (map plain_row rows) ≡ vec_len c.args.self.now.comps = omega (arith, length-map rows plain_row) in
    let is = c.index_of.ensures.at ∙ ap (λ (xs : List Row). index_in (map plain_row xs) (text_of c.args.row.name)) c.deref.ensures.value in
    comp-stands c.args.n (drafted c.args.self.now) (plain_row c.args.row) c.index_of.result is (omega (arith, many, c.len.ensures, c.if-index_of-len.true))

pub returns-then-len-ge-MOST-clause-fault : goal.returns-then-len-ge-MOST-clause-fault
returns-then-len-ge-MOST-clause-fault c =
    let rows = c.args.self.now.comps.items in
    let many : length (map plain_row rows) ≡ vec_len c.args.self.now.comps = omega (arith, length-map rows plain_row) in
    let is = c.index_of.ensures.at ∙ ap (λ (xs : List Row). index_in (map plain_row xs) (text_of c.args.row.name)) c.deref.ensures.value in
    comp-full c.args.n (drafted c.args.self.now) (plain_row c.args.row) c.index_of.result is (omega (arith, many, c.len.ensures, c.if-index_of-len.false))
    (omega (arith, many, c.len-2.ensures, c.if-len-ge-MOST.true))

pub returns-clause-taken : goal.returns-clause-taken
returns-clause-taken c =
    let rows = c.args.self.now.comps.items in
    let many : length (map plain_row rows) ≡ vec_len c.args.self.now.comps = omega (arith, length-map rows plain_row) in
    let is = c.index_of.ensures.at ∙ ap (λ (xs : List Row). index_in (map plain_row xs) (text_of c.args.row.name)) c.deref.ensures.value in
    let items = rw c.if-is_err.ensures.negation at c.push.ensures.items in
    comp-taken c.args.n (drafted c.args.self.now) (plain_row c.args.row) c.index_of.result is (omega (arith, many, c.len.ensures, c.if-index_of-len.false))
    (omega (arith, many, c.len-2.ensures, c.if-len-ge-MOST.false))
    ∙ ap (λ (comps : List PlainRow). Ok (record (drafted c.args.self.now) { comps = comps })) (sym (ap (map plain_row) items ∙ map_push plain_row rows c.args.row))
