use Rattle.std.proofs.Common.{◌∙◌, ap, subst}
use Rattle.case_words.specs.Jobs.{Asked}
use Rattle.component_table.specs.Picking.{Picks}
use Rattle.component_table.specs.Views.{held_by}
use Rattle.flash_run.specs.Wanting.{named_by}
use Rattle.flash_run.proofs.flashing.judge.Goals as goal

pub returns-in-Flash : goal.returns-in-Flash
returns-in-Flash c =
    let held = held_by c.in-Ok.table in
    let picks = subst (λ (asked : Asked). Picks held asked c.in-Ok-pick.picked) (c.base.ensures ∙ ap named_by c.in-Flash.is) c.in-Ok-pick.ensures.picked in
    rw c.in-Flash.is (c.flashed.ensures c.args.bytes.now (record { held = held; table = c.in-Ok.ensures.table; picks = picks }))

pub returns : goal.returns
returns c =
    let held = held_by c.in-Ok.table in
    let picks = subst (λ (asked : Asked). Picks held asked c.in-Ok-pick.picked) (c.base.ensures ∙ ap named_by c.in-Boundary.is) c.in-Ok-pick.ensures.picked in
    rw c.in-Boundary.is (c.searched.ensures c.args.bytes.now (record { held = held; table = c.in-Ok.ensures.table; picks = picks }))
