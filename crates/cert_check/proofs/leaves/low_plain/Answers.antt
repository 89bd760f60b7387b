use Rattle.case_types.specs.Grid.Cells.{region_of}
use Rattle.box_search.specs.Parts.{Meanings, meanings, IsOverBox}
use Rattle.cert_check.specs.Kept.{IsKept}
use Rattle.cert_check.proofs.Keeping.{turned, with_over, kept_over}
use Rattle.cert_check.proofs.leaves.low_plain.Goals as goal
use Rattle.cert_check.proofs.leaves.low_plain.Goals.{After-turn_to, After-logs_at-to, in-Some, in-None}

-- the meaning of parts on the surface
abbrev meant : (g : _) (c : After-turn_to g) → Meanings
meant g c =
    meanings (g.S.Surface.bounds c.args.surface.now).count (g.S.Surface.is_mix_low c.args.surface.now) (g.S.Surface.is_mix_up c.args.surface.now) (g.S.Surface.are_logs c.args.surface.now) (g.S.Surface.is_mix_slope c.args.surface.now) (g.S.Surface.is_packing_slope c.args.surface.now)

kept_turned : (g : _) (c : After-turn_to g) → IsKept (meant g c) c.args.plane.now.lam c.turn_to.new.self
kept_turned g c = turned (meant g c) c.args.plane.now.lam c.args.cell.now.lo c.args.cell.now.hi c.args.kept.now c.turn_to.new.self c.turn_to.ensures c.requires.kept

over_is : (g : _) (c : After-logs_at-to g) →
    IsKept (meanings (g.S.Surface.bounds c.args.surface.now).count (g.S.Surface.is_mix_low c.args.surface.now) (g.S.Surface.is_mix_up c.args.surface.now) (g.S.Surface.are_logs c.args.surface.now) (g.S.Surface.is_mix_slope c.args.surface.now) (g.S.Surface.is_packing_slope c.args.surface.now))
    c.args.plane.now.lam c.turn_to.new.self →
    IsOverBox (meanings (g.S.Surface.bounds c.args.surface.now).count (g.S.Surface.is_mix_low c.args.surface.now) (g.S.Surface.is_mix_up c.args.surface.now) (g.S.Surface.are_logs c.args.surface.now) (g.S.Surface.is_mix_slope c.args.surface.now) (g.S.Surface.is_packing_slope c.args.surface.now))
    c.args.plane.now.lam (region_of c.args.cell.now) c.match-kept.over
over_is g c kept = elim c.match-kept.branch [
  | in-Some w ↦
      rw w.over-is (kept_over _ c.args.plane.now.lam c.turn_to.new.self (region_of c.args.cell.now) w.in-Some.over kept c.turn_to.ensures.lo_is c.turn_to.ensures.hi_is w.in-Some.is)
  | in-None w ↦ rw w.over-is w.box_parts-over.ensures
]

pub logs_at-from-requires-clause-kept : goal.logs_at-from-requires-clause-kept
logs_at-from-requires-clause-kept g c = (c.args.plane.now.lam, kept_turned g (goal.at.logs_at-from-requires-clause-kept g c).After-turn_to)

pub logs_at-to-requires-clause-kept : goal.logs_at-to-requires-clause-kept
logs_at-to-requires-clause-kept g c = (c.args.plane.now.lam, kept_turned g (goal.at.logs_at-to-requires-clause-kept g c).After-turn_to)

pub look-requires-clause-parts : goal.look-requires-clause-parts
look-requires-clause-parts g c =
    let here = goal.at.look-requires-clause-parts g c in
    let over = over_is g here.After-logs_at-to (kept_turned g here.After-turn_to) in
    record { from = c.logs_at-from.ensures; to = c.logs_at-to.ensures; shared = record { over = over; middle = tt; slope = tt } }

pub returns-clause-kept : goal.returns-clause-kept
returns-clause-kept g c =
    let here = goal.at.returns-clause-kept g c in
    with_over (meant g here.After-turn_to) c.args.plane.now.lam c.turn_to.new.self (region_of c.args.cell.now) c.match-kept.over c.logs_at-from.result c.logs_at-to.result
    (kept_turned g here.After-turn_to) c.turn_to.ensures.lo_is c.turn_to.ensures.hi_is (over_is g here.After-logs_at-to (kept_turned g here.After-turn_to)) c.logs_at-from.ensures c.logs_at-to.ensures
