use Rattle.std.proofs.Common.{◌≡◌, ◌∙◌, ◌<ℤ◌, neg_ℤ, to_z, of_z, refl, arith}
use Rattle.std.specs.Int.{w128}
use Rattle.std.proofs.lemmas.Int.{ints}
use Rattle.log_laws.proofs.Exports.{back}
use Rattle.case_types.specs.Grid.Cells.{region_of}
use Rattle.energy_surface.specs.Surfaces.{under, plain_low}
use Rattle.box_search.proofs.Marks.{plain_clears, slope_clears, uncleared}
use Rattle.box_search.proofs.leaves.see.Goals.{Else-looked-delta}
use Rattle.box_search.proofs.leaves.see.Goals as goal

plain_below : (g : _) (c : Else-looked-delta g) → plain_low (g.S.Surface.bounds c.args.surface.now) c.args.plane.now.lam (region_of c.args.half.now.cell) <ℤ neg_ℤ c.args.delta
plain_below g c =
    rw (← c.look-looked.ensures.value) (omega (arith, ints, c.if-looked-delta.false, c.requires.delta_low, c.requires.delta_high, c.look-looked.ensures.small))

plain_read : (g : _) (c : Else-looked-delta g) → to_z w128 (of_z w128 c.look-looked.result.low) ≡ plain_low (g.S.Surface.bounds c.args.surface.now) c.args.plane.now.lam (region_of c.args.half.now.cell)
plain_read g c = back c.look-looked.result.low (omega (arith, c.look-looked.ensures.small)) ∙ c.look-looked.ensures.value

pub returns-then-looked-delta-clause-cleared : goal.returns-then-looked-delta-clause-cleared
returns-then-looked-delta-clause-cleared g c =
    let low = back c.look-looked.result.low (omega (arith, c.look-looked.ensures.small)) in
    plain_clears (under (g.S.Surface.bounds c.args.surface.now) c.args.plane.now.lam c.args.delta) (region_of c.args.half.now.cell) _ c.requires.meets refl
    (rw low c.look-looked.ensures.value) (rw low (omega (arith, ints, c.if-looked-delta.true, c.requires.delta_low, c.requires.delta_high, c.look-looked.ensures.small)))

pub returns-then-leaf-delta-clause-cleared : goal.returns-then-leaf-delta-clause-cleared
returns-then-leaf-delta-clause-cleared g c =
    slope_clears (under (g.S.Surface.bounds c.args.surface.now) c.args.plane.now.lam c.args.delta) (region_of c.args.half.now.cell) c.by_greater-leaf.result c.requires.meets
    (plain_below g (goal.at.returns-then-leaf-delta-clause-cleared g c).Else-looked-delta)
    (c.by_greater-leaf.ensures.left (g.S.Surface.bounds c.args.surface.now) c.args.plane.now.lam (region_of c.args.half.now.cell) c.requires.meets (plain_read g (goal.at.returns-then-leaf-delta-clause-cleared g c).Else-looked-delta) c.slope_of-sloped.ensures.value)
    (omega (arith, ints, c.if-leaf-delta.true, c.requires.delta_low, c.requires.delta_high, c.by_greater-leaf.ensures.small))

pub returns-clause-uncleared : goal.returns-clause-uncleared
returns-clause-uncleared g c =
    uncleared (under (g.S.Surface.bounds c.args.surface.now) c.args.plane.now.lam c.args.delta) (region_of c.args.half.now.cell) c.by_greater-leaf.result c.requires.meets
    (plain_below g (goal.at.returns-clause-uncleared g c).Else-looked-delta)
    (c.by_greater-leaf.ensures.left (g.S.Surface.bounds c.args.surface.now) c.args.plane.now.lam (region_of c.args.half.now.cell) c.requires.meets (plain_read g (goal.at.returns-clause-uncleared g c).Else-looked-delta) c.slope_of-sloped.ensures.value)
    (omega (arith, ints, c.if-leaf-delta.false, c.requires.delta_low, c.requires.delta_high, c.by_greater-leaf.ensures.small))

pub returns-clause-left : goal.returns-clause-left
returns-clause-left g c =
    c.by_greater-leaf.ensures.left (g.S.Surface.bounds c.args.surface.now) c.args.plane.now.lam (region_of c.args.half.now.cell) c.requires.meets (plain_read g (goal.at.returns-clause-left g c).Else-looked-delta) c.slope_of-sloped.ensures.value
