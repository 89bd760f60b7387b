use Rattle.std.proofs.Common.{◌∙◌, arith}
use Rattle.log_laws.proofs.Exports.{back}
use Rattle.case_types.specs.Grid.Cells.{region_of}
use Rattle.box_search.proofs.leaves.left.Goals as goal

pub returns-clause-left : goal.returns-clause-left
returns-clause-left g c =
    c.by_greater.ensures.left (g.S.Surface.bounds c.args.surface.now) c.args.plane.now.lam (region_of c.args.half.now.cell) c.requires.meets
    (back c.look-plain.result.low (omega (arith, c.look-plain.ensures.small)) ∙ c.look-plain.ensures.value) c.slope_of-sloped.ensures.value
