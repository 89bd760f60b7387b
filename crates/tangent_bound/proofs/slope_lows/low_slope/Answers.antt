use Rattle.std.proofs.Common.{rules, ◌≤◌, ◌∙◌, length, refl, sym, arith}
use Rattle.case_types.specs.Grid.Cells.{region_of}
use Rattle.case_types.specs.Energy.Divisions.{energy_of}
use Rattle.case_types.specs.Energy.Weighing.{IsAbovePlane}
use Rattle.case_types.specs.Arithmetic.Bounds.{potential}
use Rattle.tangent_bound.proofs.CellEnds.{high_inside, low_inside}
use Rattle.tangent_bound.proofs.SlopeKept.{if_some}
use Rattle.tangent_bound.proofs.SlopeLow.{slope_low_holds}
use Rattle.tangent_bound.proofs.slope_lows.low_slope.Goals as goal

pub returns-clause-above : goal.returns-clause-above
returns-clause-above c = λ roots f inst within state.
    let case = c.args.params.now.case in
    let lam = c.args.plane.now.lam in
    let cell = c.args.cell.now in
    let r = region_of cell in
    let value = c.slope_of_parts.ensures.value lam r (c.in_ok-mix.ensures.some r refl refl) (c.in_ok-packing.ensures.some case) in
    let lo : length cell.lo ≤ 3 = search rules in
    let hi : length cell.hi ≤ 3 = search rules in
    if_some c.slope_of_parts.result (λ low. IsAbovePlane case.n (energy_of case roots) (potential lam) low f) (λ low e.
    slope_low_holds case roots lam r low f c.args.params.now.accepted inst (omega (arith, cell.thick, cell.packed)) (omega (arith, cell.packed))
    (low_inside cell.lo cell.hi lo hi cell.ordered cell.inside) (high_inside cell.hi hi cell.inside) c.requires (sym value ∙ e) state within)
