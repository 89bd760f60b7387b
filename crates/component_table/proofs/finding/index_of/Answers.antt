use Rattle.std.proofs.Common.{◌≡◌, ◌≤◌, length, map, arith, sym, ◌∙◌, true, false}
use Rattle.std.proofs.lemmas.List.{length-map}
use Rattle.case_words.specs.Names.{text_of}
use Rattle.component_table.specs.Tables.{has_name}
use Rattle.component_table.specs.Rows.{plain_row}
use Rattle.component_table.proofs.Places.{position-more, position-here, position-end, row-here}
use Rattle.component_table.proofs.finding.index_of.Goals as goal

pub returns-then-eq-clause-at : goal.returns-then-eq-clause-at
returns-then-eq-clause-at c =
    let same = row-here c.args.comps.now c.loop-i.i c.index-comps-i.result (text_of c.args.name.now) c.name_text.result.now c.name_text-in-loop-i.result.now
    true c.loop-i-test.true c.name_text.ensures c.name_text-in-loop-i.ensures c.if-eq.ensures in
    sym (c.loop-i.invariant ∙ position-here (has_name (text_of c.args.name.now)) (map plain_row c.args.comps.now) c.loop-i.i (plain_row c.index-comps-i.result)
    (omega (arith, length-map c.args.comps.now plain_row, c.loop-i-test.true)) same)

pub loop-i-preserved : goal.loop-i-preserved
loop-i-preserved c =
    let other = row-here c.args.comps.now c.loop-i.i c.index-comps-i.result (text_of c.args.name.now) c.name_text.result.now c.name_text-in-loop-i.result.now
    false c.loop-i-test.true c.name_text.ensures c.name_text-in-loop-i.ensures c.if-eq.ensures in
    c.loop-i.invariant ∙ position-more (has_name (text_of c.args.name.now)) (map plain_row c.args.comps.now) c.loop-i.i (plain_row c.index-comps-i.result)
    (omega (arith, length-map c.args.comps.now plain_row, c.loop-i-test.true)) other

pub returns-clause-at : goal.returns-clause-at
returns-clause-at c =
    let end : length (map plain_row c.args.comps.now) ≤ length c.args.comps.now = omega (arith, length-map c.args.comps.now plain_row) in
    let last : c.loop-i.i ≡ length c.args.comps.now = omega (arith, c.loop-i-test.false, c.loop-i.auto.i-end) in
    sym (c.loop-i.invariant ∙ position-end (has_name (text_of c.args.name.now)) (map plain_row c.args.comps.now) c.loop-i.i (omega (arith, end, c.loop-i-test.false)) ∙ last)
