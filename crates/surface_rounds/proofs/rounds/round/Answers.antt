use Rattle.std.proofs.Common.{◌≡◌, ◌+◌, length, refl, sym, ◌∙◌, subst, arith, length-append}
use Rattle.std.specs.Int.{w128}
use Rattle.std.proofs.lemmas.Int.{ints, to_z-of_z}
use Rattle.log_laws.proofs.Exports.{back}
use Rattle.energy_surface.specs.Surfaces.{Surface}
use Rattle.box_search.specs.Found.{units_of}
use Rattle.surface_rounds.specs.Polished.{IsPolished}
use Rattle.surface_rounds.proofs.Polishing.{polished_units, polished_found, polished_searches}
use Rattle.surface_rounds.proofs.rounds.round.Goals as goal
use Rattle.surface_rounds.proofs.rounds.round.Goals.{After-polished-found}

-- what is kept in place of what the search finds
kept : (g : _) (c : After-polished-found g) → IsPolished (g.S.Surface.bounds c.args.surface.now) c.args.plane.now c.search-searched.result c.polished-found.result
kept g c = subst (λ (s : Surface). IsPolished s c.args.plane.now c.search-searched.result c.polished-found.result) c.requires.guide c.polished-found.ensures

pub returns-clause-found : goal.returns-clause-found
returns-clause-found g c =
    let delta = back c.args.delta (omega (arith, ints, c.requires.delta_low, c.requires.delta_high)) in
    polished_found (g.S.Surface.bounds c.args.surface.now) c.args.plane.now c.args.delta c.search-searched.new.units c.search-searched.result c.polished-found.result
    (kept g (goal.at.returns-clause-found g c).After-polished-found) (rw delta at c.search-searched.ensures.found)

pub returns-clause-makes : goal.returns-clause-makes
returns-clause-makes g c =
    let delta = back c.args.delta (omega (arith, ints, c.requires.delta_low, c.requires.delta_high)) in
    record {
      letters = c.search-searched.ensures.letters;
      searched = polished_searches (g.S.Surface.bounds c.args.surface.now) c.args.plane.now c.args.delta _ _ _ c.search-searched.result c.polished-found.result
          (kept g (goal.at.returns-clause-makes g c).After-polished-found) (rw delta at c.search-searched.ensures.searched);
      noted = rw (to_z-of_z w128 c.args.u c.ranges.u, c.len-columns.ensures, c.len-pivots.ensures, c.len-from.ensures, c.len.ensures, c.end_of.ensures) at c.push.ensures.items;
      kept = c.keep.ensures.kept;
      pivots = refl;
    }

pub returns-clause-more : goal.returns-clause-more
returns-clause-more g c = λ one.
    let e = c.search-searched.ensures in
    let unit : units_of c.search-searched.result ≡ 1 =
    sym (polished_units (g.S.Surface.bounds c.args.surface.now) c.args.plane.now c.search-searched.result c.polished-found.result (kept g (goal.at.returns-clause-more g c).After-polished-found)) ∙ one in
    let longer : length c.search-searched.new.letters.items ≡ length c.args.work.now.letters.items + length e.letters.own =
    rw e.letters.written (length-append c.args.work.now.letters.items e.letters.own) in
    let room = c.requires.room in
    let counted = c.requires.counted in (
      record {
        columns = omega (arith, room.columns, c.keep.ensures.room, one, unit, e.spent, e.budget);
        pivots = omega (arith, room.pivots, e.spent, e.budget);
        letters = omega (arith, room.letters, e.letters.room, e.letters.short, unit, e.spent, e.budget, c.search-searched.new.units.within);
        rounds = omega (arith, room.rounds, c.push.ensures.room, unit, e.spent, e.budget, c.search-searched.new.units.within);
      },
      record {
        columns = omega (arith, c.keep.ensures.longer, counted.columns, one, unit, e.spent);
        pivots = omega (arith, counted.pivots, e.spent);
        letters = omega (arith, longer, counted.letters, e.letters.short, unit, e.spent);
      },
    )
