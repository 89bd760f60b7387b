use Rattle.std.proofs.Common.{◌≡◌, ℕ, ◌-◌, ◌≤◌, List, Option, Some, None, true, false, ℤ, to_z, of_z, ap, ◌∙◌, sym, refl, arith}
use Rattle.std.specs.Prelude.{is_some, IsSome}
use Rattle.std.specs.Int.{w128}
use Rattle.std.proofs.lemmas.Int.{ints}
use Rattle.log_laws.proofs.Exports.{back}
use Rattle.case_types.specs.Spared.{Spared}
use Rattle.case_types.specs.declared.pivots.Pivot.{Pivot}
use Rattle.case_types.specs.declared.rounds.Column.{Column}
use Rattle.energy_surface.specs.declared.found.Found.{Found}
use Rattle.energy_surface.specs.declared.found.Found.TheVariants.{AllClear, Refuted, Spent, Grain}
use Rattle.energy_surface.specs.Outcomes.{delta_of}
use Rattle.energy_surface.specs.Program.Bases.{AreColumns}
use Rattle.energy_surface.specs.Program.Pivots.{IsPriced, IsEntering, IsOptimal}
use Rattle.energy_surface.specs.Program.Planes.{plane_of}
use Rattle.energy_surface.specs.Searches.{low_of}
use Rattle.energy_surface.specs.Surfaces.{under}
use Rattle.box_search.specs.Found.{IsFound, units_of}
use Rattle.surface_rounds.specs.Flashing.{IsBetweenRounds, IsAfterRounds, IsAfterRound}
use Rattle.surface_rounds.specs.Noted.{MakesRound}
use Rattle.surface_rounds.proofs.FlashSoFar.{with_pivots}
use Rattle.surface_rounds.proofs.OnTheWay.{OnTheWay, are_columns, ups_small, few_columns, after_cut, after_end, after_refuted}
use Rattle.surface_rounds.proofs.stages.next_stage.Goals as goal
use Rattle.surface_rounds.proofs.stages.next_stage.Goals.{Start, After-choose-chosen, After-cut_short, After-round-found}

columns : (g : _) (c : Start g) → AreColumns c.args.case.now.n c.args.work.now.columns.items
columns g c =
    let between = c.requires.between in
    are_columns (g.S.Surface.bounds c.args.surface.now) c.args.case.now c.args.work.now.columns.items (sym c.requires.components)
    (few_columns c.args.units.now c.args.work.now between.counted) between.flashing.kept

-- what the search for a column that enters has answered
one_enters : (n : ℕ) (cols : List Column) (at : List ℕ) (wanted : Option ℕ) → is_some wanted ≡ true → IsPriced n cols at wanted → (enter : ℕ) × IsEntering n cols at enter
one_enters n cols at None e h = absurd (cc e)
one_enters n cols at (Some j) e h = (j, h)

none_enters : (n : ℕ) (cols : List Column) (at : List ℕ) (wanted : Option ℕ) → is_some wanted ≡ false → IsPriced n cols at wanted → IsOptimal n cols at
none_enters n cols at None e h = h
none_enters n cols at (Some j) e h = absurd (cc e)

where_some : (wanted : Option ℕ) (A : Type 0) → is_some wanted ≡ true → (IsSome wanted → A) → A
where_some None A e f = absurd (cc e)
where_some (Some j) A e f = f refl

pub optimize-wanted-requires-clause-columns : goal.optimize-wanted-requires-clause-columns
optimize-wanted-requires-clause-columns g c = columns g (goal.at.optimize-wanted-requires-clause-columns g c).Start

pub choose-chosen-requires-clause-columns : goal.choose-chosen-requires-clause-columns
choose-chosen-requires-clause-columns g c = columns g (goal.at.choose-chosen-requires-clause-columns g c).Start

pub choose-chosen-requires-clause-ups : goal.choose-chosen-requires-clause-ups
choose-chosen-requires-clause-ups g c = ups_small (g.S.Surface.bounds c.args.surface.now) c.args.work.now.columns.items c.requires.between.flashing.kept.columns

-- ---- after the choice of the split
way : (g : _) (c : After-choose-chosen g) →
    OnTheWay (g.S.Surface.bounds c.args.surface.now) c.args.case.now c.args.tol c.args.rivals.now.items c.args.units.now c.optimize-wanted.new.units c.args.work.now c.optimize-wanted.new.pivots
    c.args.basis.now.at c.optimize-wanted.new.basis.at c.choose-chosen.result
way g c =
    let o = c.optimize-wanted.ensures in
    let slack = back c.slack.result (omega (arith, ints, c.slack.ensures.not_negative, c.slack.ensures.small)) ∙ c.slack.ensures.value in
    record {
      count = sym c.requires.components;
      fine = c.requires.tol_low;
      standing = c.requires.rivals;
      between = c.requires.between;
      pivoted = o.pivoted;
      basis = o.basis;
      spent = o.spent;
      budget = o.budget;
      choice = rw slack at c.choose-chosen.ensures.chosen;
    }

-- ---- no unit is left for a pivot
pub plane-plane-requires-clause-columns : goal.plane-plane-requires-clause-columns
plane-plane-requires-clause-columns g c = columns g (goal.at.plane-plane-requires-clause-columns g c).Start

pub plane-plane-requires-clause-basis : goal.plane-plane-requires-clause-basis
plane-plane-requires-clause-basis g c = c.start.ensures.basis c.args.work.now.columns.items (columns g (goal.at.plane-plane-requires-clause-basis g c).Start)

pub plane-plane-requires-clause-optimal : goal.plane-plane-requires-clause-optimal
plane-plane-requires-clause-optimal g c = c.start.ensures.optimal c.args.work.now.columns.items (columns g (goal.at.plane-plane-requires-clause-optimal g c).Start)

pub returns-then-is_some-clause-after : goal.returns-then-is_some-clause-after
returns-then-is_some-clause-after g c =
    let s = g.S.Surface.bounds c.args.surface.now in
    let here = goal.at.returns-then-is_some-clause-after g c in
    let o = c.optimize-wanted in
    let some : is_some o.result ≡ true = sym c.is_some.ensures ∙ c.if-is_some.true in
    let enters = one_enters c.args.case.now.n c.args.work.now.columns.items o.new.basis.at o.result some o.ensures.priced in
    let tangent = c.plane-plane.ensures ∙ ap (λ (p : List ℕ). plane_of c.args.case.now.n c.args.work.now.columns.items p) c.start.ensures.places in
    let u = back c.choose-chosen.result.u (omega (arith, c.choose-chosen.ensures.small)) in
    rw (back c.whole_low-low.result (omega (arith, c.whole_low-low.ensures.small)))
    (after_cut s c.args.case.now c.args.tol c.args.rivals.now.items c.args.units.now o.new.units c.args.work.now o.new.pivots c.args.basis.now.at o.new.basis.at c.choose-chosen.result
    (way g here.After-choose-chosen) c.cut_short.new.work c.plane-plane.result c.whole_low-low.result enters.0 enters.1 tangent
    (record {
      noted = rw u at c.cut_short.ensures.noted;
      letter = c.cut_short.ensures.letter;
      columns = ap (λ (x : Spared Column). x.items) c.cut_short.ensures.columns;
      pivots = ap (λ (x : Spared Pivot). x.items) c.cut_short.ensures.pivots;
    }) c.whole_low-low.ensures.value (where_some o.result (o.new.units.spent ≡ o.new.units.budget) some o.ensures.all_spent))

-- ---- the plane is searched
pub plane-plane-requires-2-clause-columns : goal.plane-plane-requires-2-clause-columns
plane-plane-requires-2-clause-columns g c = columns g (goal.at.plane-plane-requires-2-clause-columns g c).Start

pub plane-plane-requires-2-clause-optimal : goal.plane-plane-requires-2-clause-optimal
plane-plane-requires-2-clause-optimal g c =
    let o = c.optimize-wanted in
    let none : is_some o.result ≡ false = sym c.is_some.ensures ∙ c.if-is_some.false in
    let good = columns g (goal.at.plane-plane-requires-2-clause-optimal g c).Start in
    λ j h. none_enters c.args.case.now.n c.args.work.now.columns.items o.new.basis.at o.result none o.ensures.priced j (omega (arith, h, good.enough))

module _ (g : _) (c : After-round-found g) where
  delta : to_z w128 (of_z w128 c.delta.result) ≡ delta_of c.args.tol
  delta = back c.delta.result (omega (arith, ints, c.delta.ensures.positive, c.delta.ensures.small)) ∙ c.delta.ensures.value

  optimal : IsOptimal c.args.case.now.n c.args.work.now.columns.items c.optimize-wanted.new.basis.at
  optimal =
      let o = c.optimize-wanted in
      none_enters c.args.case.now.n c.args.work.now.columns.items o.new.basis.at o.result (sym c.is_some.ensures ∙ c.if-is_some.false) o.ensures.priced

  went : MakesRound (under (g.S.Surface.bounds c.args.surface.now) c.plane-plane-2.result.lam (delta_of c.args.tol)) c.plane-plane-2.result c.choose-chosen.result.u
      (with_pivots c.args.work.now c.optimize-wanted.new.pivots) c.round-found.new.work (c.round-found.new.units.spent - c.optimize-wanted.new.units.spent) c.round-found.result
  went = rw (delta, back c.choose-chosen.result.u (omega (arith, c.choose-chosen.ensures.small))) at c.round-found.ensures.makes

  is : IsFound (under (g.S.Surface.bounds c.args.surface.now) c.plane-plane-2.result.lam (delta_of c.args.tol)) c.round-found.new.units c.round-found.result
  is = rw delta at c.round-found.ensures.found

  later : c.optimize-wanted.new.units.spent ≤ c.round-found.new.units.spent
  later = omega (arith, c.round-found.ensures.spent)

  ended : (low : ℤ) → low_of c.round-found.result ≡ Some low →
      IsAfterRounds (g.S.Surface.bounds c.args.surface.now) c.args.case.now c.args.tol c.round-found.new.units c.round-found.new.work c.optimize-wanted.new.basis.at c.args.rivals.now.items
      (record { chosen = c.choose-chosen.result; plane = c.plane-plane-2.result; found = c.round-found.result })
  ended low e =
      let o = c.optimize-wanted in
      after_end (g.S.Surface.bounds c.args.surface.now) c.args.case.now c.args.tol c.args.rivals.now.items c.args.units.now o.new.units c.args.work.now o.new.pivots c.args.basis.now.at o.new.basis.at
      c.choose-chosen.result (way g (goal.at.returns-clause-after g c).After-choose-chosen) c.round-found.new.units c.round-found.new.work c.plane-plane-2.result c.round-found.result
      optimal c.plane-plane-2.ensures went later is low e

  cut_off : (kept : Column) → c.round-found.result ≡ Refuted kept →
      IsBetweenRounds (g.S.Surface.bounds c.args.surface.now) c.args.case.now c.args.tol c.round-found.new.units c.round-found.new.work c.optimize-wanted.new.basis.at
  cut_off kept e =
      let o = c.optimize-wanted in
      let more = c.round-found.ensures.more (ap units_of e) in
      after_refuted (g.S.Surface.bounds c.args.surface.now) c.args.case.now c.args.tol c.args.rivals.now.items c.args.units.now o.new.units c.args.work.now o.new.pivots c.args.basis.now.at o.new.basis.at
      c.choose-chosen.result (way g (goal.at.returns-clause-after g c).After-choose-chosen) c.round-found.new.units c.round-found.new.work c.plane-plane-2.result c.round-found.result
      optimal c.plane-plane-2.ensures went later is kept e more.0 more.1

  by_end : (r : Found) → c.round-found.result ≡ r →
      IsAfterRound (g.S.Surface.bounds c.args.surface.now) c.args.case.now c.args.tol c.round-found.new.units c.round-found.new.work c.optimize-wanted.new.basis.at c.args.rivals.now.items
      (record { chosen = c.choose-chosen.result; plane = c.plane-plane-2.result; found = c.round-found.result }) r
  by_end (AllClear low) e = ended low (ap low_of e)
  by_end (Refuted kept) e = cut_off kept e
  by_end (Spent low) e = ended low (ap low_of e)
  by_end (Grain low cell) e = ended low (ap low_of e)

pub returns-clause-after : goal.returns-clause-after
returns-clause-after g c = by_end g c c.round-found.result refl
