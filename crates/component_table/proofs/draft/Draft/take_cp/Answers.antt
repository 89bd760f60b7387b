use Rattle.std.proofs.Common.{List, map, sym, ap, ◌∙◌, Ok}
use Rattle.case_types.specs.declared.cases.Row.{Row}
use Rattle.case_words.specs.Names.{text_of}
use Rattle.component_table.specs.declared.rows.CpRow.{CpRow}
use Rattle.component_table.specs.Tables.{known, is_of}
use Rattle.component_table.specs.Rows.{plain_row}
use Rattle.component_table.specs.Views.{drafted}
use Rattle.std.specs.List.{list_any}
use Rattle.component_table.proofs.Taking.{cp-unknown, cp-stands, cp-taken}
use Rattle.component_table.proofs.draft.Draft.take_cp.Goals as goal

pub returns-in-Err-clause-fault : goal.returns-in-Err-clause-fault
returns-in-Err-clause-fault c =
    cp-unknown c.args.n (drafted c.args.self.now) (text_of c.args.name.now) c.args.cp c.in-Err.fault (ap (λ (xs : List Row). known c.args.n (map plain_row xs) (text_of c.args.name.now)) (sym c.deref.ensures.value) ∙ c.in-Err.ensures)

pub returns-then-has_cp-clause-fault : goal.returns-then-has_cp-clause-fault
returns-then-has_cp-clause-fault c =
    cp-stands c.args.n (drafted c.args.self.now) (text_of c.args.name.now) c.args.cp c.in-Ok.i
    (ap (λ (xs : List Row). known c.args.n (map plain_row xs) (text_of c.args.name.now)) (sym c.deref.ensures.value) ∙ c.in-Ok.ensures)
    (ap (list_any (is_of c.in-Ok.i)) (sym c.deref-2.ensures.value) ∙ sym c.if-has_cp.ensures)

pub returns-clause-taken : goal.returns-clause-taken
returns-clause-taken c =
    let items = rw c.if-is_err.ensures.negation at c.push.ensures.items in
    cp-taken c.args.n (drafted c.args.self.now) (text_of c.args.name.now) c.args.cp c.in-Ok.i
    (ap (λ (xs : List Row). known c.args.n (map plain_row xs) (text_of c.args.name.now)) (sym c.deref.ensures.value) ∙ c.in-Ok.ensures)
    (ap (list_any (is_of c.in-Ok.i)) (sym c.deref-2.ensures.value) ∙ sym c.if-has_cp.ensures)
    ∙ ap (λ (cps : List CpRow). Ok (record (drafted c.args.self.now) { cps = cps })) (sym items)
