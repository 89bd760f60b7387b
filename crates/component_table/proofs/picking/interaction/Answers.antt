use Rattle.std.proofs.Common.{◌∙◌, pos, sym, get_or}
use Rattle.component_table.specs.declared.rows.PairRow.{PairRow}
use Rattle.component_table.specs.Tables.{is_pair}
use Rattle.component_table.specs.Choosing.{interaction_of}
use Rattle.component_table.proofs.Signed.{written-back}
use Rattle.component_table.proofs.Kept.{interaction-small}
use Rattle.component_table.proofs.Choices.{k-here, k-more, k-end, of-two, in_range}
use Rattle.component_table.proofs.picking.interaction.Goals as goal

pub returns-then-is_of_both-clause-exact : goal.returns-then-is_of_both-clause-exact
returns-then-is_of_both-clause-exact c =
    let none : PairRow = record { i = 0; j = 0; k = pos 0 } in
    let found = of-two c.args.pairs.now c.args.i c.args.j c.if-i-j.false
    ∙ c.loop-p.invariant
    ∙ k-here (is_pair c.args.i c.args.j) c.args.pairs.now c.loop-p.p-index none c.loop-p-test.true (sym c.if-is_of_both.ensures) in
    let small = interaction-small (interaction_of c.args.pairs.now c.args.i c.args.j) (in_range c.args.pairs.now c.args.i c.args.j c.requires) in
    written-back (get_or c.args.pairs.now c.loop-p.p-index none).k (rw (← found) small) ∙ sym found

pub returns-then-is_of_both-clause-small : goal.returns-then-is_of_both-clause-small
returns-then-is_of_both-clause-small c =
    let small = interaction-small (interaction_of c.args.pairs.now c.args.i c.args.j) (in_range c.args.pairs.now c.args.i c.args.j c.requires) in
    rw (returns-then-is_of_both-clause-exact c) small

pub loop-p-preserved : goal.loop-p-preserved
loop-p-preserved c =
    let none : PairRow = record { i = 0; j = 0; k = pos 0 } in
    c.loop-p.invariant
    ∙ k-more (is_pair c.args.i c.args.j) c.args.pairs.now c.loop-p.p-index none c.loop-p-test.true (sym c.if-is_of_both.ensures)

pub returns-clause-exact : goal.returns-clause-exact
returns-clause-exact c =
    sym (of-two c.args.pairs.now c.args.i c.args.j c.if-i-j.false ∙ c.loop-p.invariant
    ∙ k-end (is_pair c.args.i c.args.j) c.args.pairs.now c.loop-p.p-index c.loop-p-test.false)
