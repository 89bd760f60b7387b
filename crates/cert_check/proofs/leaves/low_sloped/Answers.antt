use Rattle.case_types.specs.Grid.Cells.{region_of}
use Rattle.box_search.specs.Parts.{Meanings, meanings}
use Rattle.cert_check.specs.Kept.{IsKept}
use Rattle.cert_check.proofs.Keeping.{turned, with_slope, kept_slope}
use Rattle.cert_check.proofs.leaves.low_sloped.Goals as goal
use Rattle.cert_check.proofs.leaves.low_sloped.Goals.{After-turn_to, After-logs_at-to, in-Some, in-None+in_ok-slope-in-None}

-- the meaning of parts on the surface
abbrev meant : (g : _) (c : After-turn_to g) → Meanings
meant g c =
    meanings (g.S.Surface.bounds c.args.surface.now).count (g.S.Surface.is_mix_low c.args.surface.now) (g.S.Surface.is_mix_up c.args.surface.now) (g.S.Surface.are_logs c.args.surface.now) (g.S.Surface.is_mix_slope c.args.surface.now) (g.S.Surface.is_packing_slope c.args.surface.now)

kept_turned : (g : _) (c : After-turn_to g) → IsKept (meant g c) c.args.plane.now.lam c.turn_to.new.self
kept_turned g c = turned (meant g c) c.args.plane.now.lam c.args.cell.now.lo c.args.cell.now.hi c.args.kept.now c.turn_to.new.self c.turn_to.ensures c.requires.kept

slope_is : (g : _) (c : After-logs_at-to g) →
    IsKept (meanings (g.S.Surface.bounds c.args.surface.now).count (g.S.Surface.is_mix_low c.args.surface.now) (g.S.Surface.is_mix_up c.args.surface.now) (g.S.Surface.are_logs c.args.surface.now) (g.S.Surface.is_mix_slope c.args.surface.now) (g.S.Surface.is_packing_slope c.args.surface.now))
    c.args.plane.now.lam c.turn_to.new.self →
    g.S.Surface.is_mix_slope c.args.surface.now c.args.plane.now.lam c.args.cell.now.lo c.args.cell.now.hi c.match-kept.slope
slope_is g c kept = elim c.match-kept.branch [
  | in-Some w ↦
      rw w.slope-is (kept_slope _ c.args.plane.now.lam c.turn_to.new.self (region_of c.args.cell.now) w.in-Some.slope kept c.turn_to.ensures.lo_is c.turn_to.ensures.hi_is w.in-Some.is)
  | in-None+in_ok-slope-in-None w ↦ rw w.slope-is w.in_ok-slope-in-None.ensures.some
]

pub logs_at-from-requires-clause-kept : goal.logs_at-from-requires-clause-kept
logs_at-from-requires-clause-kept g c = (c.args.plane.now.lam, kept_turned g (goal.at.logs_at-from-requires-clause-kept g c).After-turn_to)

pub logs_at-to-requires-clause-kept : goal.logs_at-to-requires-clause-kept
logs_at-to-requires-clause-kept g c = (c.args.plane.now.lam, kept_turned g (goal.at.logs_at-to-requires-clause-kept g c).After-turn_to)

pub returns-in_err-packing-clause-kept : goal.returns-in_err-packing-clause-kept
returns-in_err-packing-clause-kept g c =
    let here = goal.at.returns-in_err-packing-clause-kept g c in
    with_slope (meant g here.After-turn_to) c.args.plane.now.lam c.turn_to.new.self (region_of c.args.cell.now) c.match-kept.slope c.logs_at-from.result c.logs_at-to.result
    (kept_turned g here.After-turn_to) c.turn_to.ensures.lo_is c.turn_to.ensures.hi_is (slope_is g here.After-logs_at-to (kept_turned g here.After-turn_to)) c.logs_at-from.ensures c.logs_at-to.ensures

pub returns-clause-kept : goal.returns-clause-kept
returns-clause-kept g c =
    let here = goal.at.returns-clause-kept g c in
    with_slope (meant g here.After-turn_to) c.args.plane.now.lam c.turn_to.new.self (region_of c.args.cell.now) c.match-kept.slope c.logs_at-from.result c.logs_at-to.result
    (kept_turned g here.After-turn_to) c.turn_to.ensures.lo_is c.turn_to.ensures.hi_is (slope_is g here.After-logs_at-to (kept_turned g here.After-turn_to)) c.logs_at-from.ensures c.logs_at-to.ensures
