use Rattle.std.proofs.Common.{◌≡◌, ◌^◌, ◌≤◌, Some, unsigned_abs, refl, ◌∙◌, arith}
use Rattle.log_laws.proofs.Exports.{back}
use Rattle.energy_surface.specs.Outcomes.{outcome_of}
use Rattle.energy_surface.specs.Searches.{low_of}
use Rattle.surface_rounds.proofs.Answered.{gap_fits, gap_read}
use Rattle.surface_rounds.proofs.answers.answer_of.Goals as goal
use Rattle.surface_rounds.proofs.answers.answer_of.Goals.{After-plane_at_feed, in-AllClear, in-Spent, in-Grain}

module _ (c : After-plane_at_feed) where
  -- the outcome and the low are those of the search
  read : (outcome_of c.args.stage.now.found ≡ Some c.match-stage.outcome.0) × (low_of c.args.stage.now.found ≡ Some c.match-stage.outcome.1) × (unsigned_abs c.match-stage.outcome.1 ≤ 2 ^ 107)
  read =
      elim c.match-stage.branch [
        | in-AllClear w ↦ let small : unsigned_abs w.in-AllClear.low ≤ 2 ^ 107 = rw w.in-AllClear.is at c.requires.low in
            rw (w.in-AllClear.is, w.outcome-is, back w.in-AllClear.low (omega (arith, small))) (refl, refl, small)
        | in-Spent w ↦ let small : unsigned_abs w.in-Spent.low ≤ 2 ^ 107 = rw w.in-Spent.is at c.requires.low in
            rw (w.in-Spent.is, w.outcome-is, back w.in-Spent.low (omega (arith, small))) (refl, refl, small)
        | in-Grain w ↦ let small : unsigned_abs w.in-Grain.low ≤ 2 ^ 107 = rw w.in-Grain.is at c.requires.low in
            rw (w.in-Grain.is, w.outcome-is, back w.in-Grain.low (omega (arith, small))) (refl, refl, small)
      ]

pub overflow_sub-result-2 : goal.overflow_sub-result-2
overflow_sub-result-2 c =
    gap_fits c.args.stage.now.chosen.u c.plane_at_feed.result c.match-stage.outcome.1 c.requires.up c.plane_at_feed.ensures.small (read (goal.at.overflow_sub-result-2 c).After-plane_at_feed).2

pub returns : goal.returns
returns c =
    let known = read (goal.at.returns c).After-plane_at_feed in
    let low = back c.match-stage.outcome.1 (omega (arith, known.2)) in
    let u = back c.args.stage.now.chosen.u (omega (arith, c.requires.up)) in
    record {
      outcome = known.0;
      split = refl;
      u = u;
      plane = refl;
      low = rw low known.1;
      gap = gap_read c.args.stage.now.chosen.u c.plane_at_feed.result c.match-stage.outcome.1 c.requires.up c.plane_at_feed.ensures.small known.2 ∙ rw (u, low, c.plane_at_feed.ensures.value) refl;
      units = refl;
      work = refl;
    }
