use Rattle.std.proofs.Common.{◌≡◌, ◌∙◌, ◌-ℤ◌, refl, arith}
use Rattle.log_laws.proofs.Exports.{back}
use Rattle.case_types.specs.Grid.Cells.{region_of, box_of_region}
use Rattle.box_search.specs.Parts.{IsOverBox, IsShared, meanings}
use Rattle.box_search.specs.declared.parts.Shared.TheVariants.{Compositions}
use Rattle.case_types.proofs.Exports.{low_is}
use Rattle.box_search.proofs.looks.look.Goals.{After-above, in-Compositions, in_default}
use Rattle.box_search.proofs.looks.look.Goals as goal

-- whether the cell has them or not, the parts are those of its compositions
over_is : (g : _) (c : After-above g) →
    IsOverBox (meanings (g.S.Surface.bounds c.args.surface.now).count (g.S.Surface.is_mix_low c.args.surface.now) (g.S.Surface.is_mix_up c.args.surface.now) (g.S.Surface.are_logs c.args.surface.now) (g.S.Surface.is_mix_slope c.args.surface.now) (g.S.Surface.is_packing_slope c.args.surface.now))
    c.args.plane.now.lam (region_of c.args.half.now.cell) c.match-half.over
over_is g c = elim c.match-half.branch [
  | in-Compositions w ↦
      let own : IsShared (meanings (g.S.Surface.bounds c.args.surface.now).count (g.S.Surface.is_mix_low c.args.surface.now) (g.S.Surface.is_mix_up c.args.surface.now) (g.S.Surface.are_logs c.args.surface.now) (g.S.Surface.is_mix_slope c.args.surface.now) (g.S.Surface.is_packing_slope c.args.surface.now))
      c.args.plane.now.lam (region_of c.args.half.now.cell)
      (Compositions w.in-Compositions.over w.in-Compositions.middle w.in-Compositions.slope) = rw w.in-Compositions.is at c.requires.parts.shared in
      rw w.over-is own.over
  | in_default w ↦ rw w.over-is w.box_parts-over.ensures
]

pub returns-clause-value : goal.returns-clause-value
returns-clause-value g c =
    let s = g.S.Surface.bounds c.args.surface.now in
    let r = region_of c.args.half.now.cell in
    let over = over_is g c in
    let low = c.low-energy.ensures.value (box_of_region s.count r) r.ylo r.yhi over.mix c.requires.parts.from.1 c.requires.parts.to.1 in
    let plane = back c.match-half.over.plane (omega (arith, c.match-half.over.small)) in
    let value : c.above.result ≡ c.low-energy.result -ℤ c.match-half.over.plane = rw (back c.low-energy.result (omega (arith, c.low-energy.ensures.small)), plane) at c.above.ensures.value in
    back c.above.result (omega (arith, c.above.ensures.small)) ∙ value ∙ low_is s.count s.low c.args.plane.now.lam r (box_of_region s.count r) c.low-energy.result c.match-half.over.plane refl low over.plane

pub returns-clause-over : goal.returns-clause-over
returns-clause-over g c = over_is g c
