use Rattle.std.proofs.Common.{◌∙◌, [], get_or, sym}
use Rattle.std.proofs.lemmas.Bool.{eq-eqb}
use Rattle.component_table.specs.declared.rows.CpRow.{CpRow}
use Rattle.component_table.proofs.Taking.{different}
use Rattle.component_table.proofs.Heats.{capacity-here, capacity-more, capacity-end}
use Rattle.component_table.proofs.capacities.capacity.Goals as goal

abbrev no_row : CpRow
no_row = record { i = 0; cp = [] }

pub returns-then-row-place : goal.returns-then-row-place
returns-then-row-place c =
    let row = get_or c.args.cps.now c.loop-row.row-index no_row in
    sym (c.loop-row.invariant ∙ capacity-here c.args.cps.now c.loop-row.row-index c.args.place no_row c.loop-row-test.true (eq-eqb row.i c.args.place c.if-row-place.true))

pub loop-row-preserved : goal.loop-row-preserved
loop-row-preserved c =
    let row = get_or c.args.cps.now c.loop-row.row-index no_row in
    c.loop-row.invariant ∙ capacity-more c.args.cps.now c.loop-row.row-index c.args.place no_row c.loop-row-test.true (different row.i c.args.place c.if-row-place.false)

pub returns : goal.returns
returns c = sym (c.loop-row.invariant ∙ capacity-end c.args.cps.now c.loop-row.row-index c.args.place c.loop-row-test.false)
