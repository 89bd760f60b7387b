use Rattle.std.proofs.Common.{ap, ◌∙◌, Ok}
use Rattle.case_words.specs.Names.{text_of}
use Rattle.component_table.specs.declared.records.Record.{Record}
use Rattle.component_table.specs.Records.{PlainComp, PlainPair, PlainCp}
use Rattle.component_table.specs.Rows.{plain_row}
use Rattle.component_table.specs.Views.{plain_record, drafted}
use Rattle.csv.specs.Records.{fields_of}
use Rattle.component_table.proofs.Kept.{pair-back}
use Rattle.component_table.proofs.Taking.{fields-said, fields-fault}
use Rattle.component_table.proofs.draft.Draft.take.Goals as goal

pub returns-in-Ok-Comp-clause-taken : goal.returns-in-Ok-Comp-clause-taken
returns-in-Ok-Comp-clause-taken c = rw (fields-said c.args.n (drafted c.args.self.now) (fields_of c.args.fields.now) (PlainComp (plain_row c.in-Ok-Comp.row)) (c.in-Ok-Comp.ensures ∙ ap (λ (r : Record). Ok (plain_record r)) c.in-Ok-Comp.field-0-is)) c.take_comp.ensures.taken

pub returns-in-Ok-Comp-clause-fault : goal.returns-in-Ok-Comp-clause-fault
returns-in-Ok-Comp-clause-fault c = rw (fields-said c.args.n (drafted c.args.self.now) (fields_of c.args.fields.now) (PlainComp (plain_row c.in-Ok-Comp.row)) (c.in-Ok-Comp.ensures ∙ ap (λ (r : Record). Ok (plain_record r)) c.in-Ok-Comp.field-0-is)) c.take_comp.ensures.fault

pub returns-in-Ok-Pair-clause-taken : goal.returns-in-Ok-Pair-clause-taken
returns-in-Ok-Pair-clause-taken c =
    let said = c.in-Ok-Pair.ensures ∙ ap (λ (r : Record). Ok (plain_record r)) c.in-Ok-Pair.field-0-is in
    let back = pair-back c.args.n (fields_of c.args.fields.now) (text_of c.in-Ok-Pair.first) (text_of c.in-Ok-Pair.second) c.in-Ok-Pair.k said in
    rw (fields-said c.args.n (drafted c.args.self.now) (fields_of c.args.fields.now) (PlainPair (text_of c.in-Ok-Pair.first) (text_of c.in-Ok-Pair.second) c.in-Ok-Pair.k) said)
    (rw back at c.take_pair.ensures.taken)

pub returns-in-Ok-Pair-clause-fault : goal.returns-in-Ok-Pair-clause-fault
returns-in-Ok-Pair-clause-fault c =
    let said = c.in-Ok-Pair.ensures ∙ ap (λ (r : Record). Ok (plain_record r)) c.in-Ok-Pair.field-0-is in
    let back = pair-back c.args.n (fields_of c.args.fields.now) (text_of c.in-Ok-Pair.first) (text_of c.in-Ok-Pair.second) c.in-Ok-Pair.k said in
    rw (fields-said c.args.n (drafted c.args.self.now) (fields_of c.args.fields.now) (PlainPair (text_of c.in-Ok-Pair.first) (text_of c.in-Ok-Pair.second) c.in-Ok-Pair.k) said)
    (rw back at c.take_pair.ensures.fault)

pub returns-in-Ok-Cp-clause-taken : goal.returns-in-Ok-Cp-clause-taken
returns-in-Ok-Cp-clause-taken c = rw (fields-said c.args.n (drafted c.args.self.now) (fields_of c.args.fields.now) (PlainCp (text_of c.in-Ok-Cp.name) c.in-Ok-Cp.cp) (c.in-Ok-Cp.ensures ∙ ap (λ (r : Record). Ok (plain_record r)) c.in-Ok-Cp.field-0-is)) c.take_cp.ensures.taken

pub returns-in-Ok-Cp-clause-fault : goal.returns-in-Ok-Cp-clause-fault
returns-in-Ok-Cp-clause-fault c = rw (fields-said c.args.n (drafted c.args.self.now) (fields_of c.args.fields.now) (PlainCp (text_of c.in-Ok-Cp.name) c.in-Ok-Cp.cp) (c.in-Ok-Cp.ensures ∙ ap (λ (r : Record). Ok (plain_record r)) c.in-Ok-Cp.field-0-is)) c.take_cp.ensures.fault

pub returns-in-Err-clause-fault : goal.returns-in-Err-clause-fault
returns-in-Err-clause-fault c = fields-fault c.args.n (drafted c.args.self.now) (fields_of c.args.fields.now) c.in-Err.fault c.in-Err.ensures
