use Rattle.std.proofs.Common.{◌≡◌, ◌+◌, length, ap, ◌∙◌, sym, subst, arith, length-append}
use Rattle.std.specs.Prelude.{All}
use Rattle.case_types.specs.declared.cases.Case.{Case}
use Rattle.energy_surface.specs.Columns.{IsColumn}
use Rattle.energy_surface.specs.Program.Bases.{AreColumns}
use Rattle.energy_surface.specs.Surfaces.{Surface}
use Rattle.box_search.specs.Found.{units_of}
use Rattle.surface_rounds.specs.Guessing.{IsGuess}
use Rattle.surface_rounds.specs.Flashing.{ArePure, AreKept, IsAfterRounds}
use Rattle.surface_rounds.proofs.Answered.{is_last, has_low, lawful}
use Rattle.surface_rounds.proofs.FlashSoFar.{kept_begin, flashing_begins}
use Rattle.surface_rounds.proofs.OnTheWay.{are_columns}
use Rattle.surface_rounds.proofs.flashing.flashed.Goals as goal
use Rattle.surface_rounds.proofs.flashing.flashed.Goals.{After-keep_guessed, In_default}

-- ---- before the first round
module _ (g : _) (c : After-keep_guessed g) where
  pure : ArePure (g.S.Surface.bounds c.args.surface.now) c.args.case.now.n c.keep_pure.new.columns.items
  pure = subst (λ n. ArePure (g.S.Surface.bounds c.args.surface.now) n c.keep_pure.new.columns.items) (sym c.requires.components) c.keep_pure.ensures.pure

  kept : AreKept (g.S.Surface.bounds c.args.surface.now) c.args.case.now c.keep_guessed.new.columns.items
  kept =
      rw c.keep_guessed.ensures.kept (kept_begin (g.S.Surface.bounds c.args.surface.now) c.args.case.now c.keep_pure.new.columns.items c.guesses-splits.result.columns.items pure
      (subst (λ (s : Surface). All (IsColumn s) c.guesses-splits.result.columns.items) c.requires.guide c.guesses-splits.ensures.columns))

  counted : length c.keep_guessed.new.columns.items ≡ c.args.case.now.n + length c.guesses-splits.result.columns.items
  counted = rw c.keep_guessed.ensures.kept (length-append c.keep_pure.new.columns.items c.guesses-splits.result.columns.items ∙ ap (λ n. n + length c.guesses-splits.result.columns.items) pure.counted)

  columns : AreColumns c.args.case.now.n c.keep_guessed.new.columns.items
  columns =
      are_columns (g.S.Surface.bounds c.args.surface.now) c.args.case.now c.keep_guessed.new.columns.items (sym c.requires.components)
      (omega (arith, counted, c.keep_guessed.ensures.few, c.args.case.now.few)) kept

pub rivals-rivals-requires-clause-guessed : goal.rivals-rivals-requires-clause-guessed
rivals-rivals-requires-clause-guessed g c =
    let splits = c.guesses-splits.result.splits.items in
    subst (λ (s : Surface). All (IsGuess s c.args.case.now) splits) c.requires.guide
    (subst (λ (v : Case). All (IsGuess (g.G.Guide.bounds c.args.guide.now) v) splits) c.requires.feed c.guesses-splits.ensures.splits)

pub loop-work-init : goal.loop-work-init
loop-work-init g c =
    let here = (goal.at.loop-work-init g c).After-keep_guessed in
    let s = g.S.Surface.bounds c.args.surface.now in
    let case = c.args.case.now in
    let work = c.in_ok-work.ensures in
    let units = c.new-units.ensures in
    let guessed = length c.guesses-splits.result.columns.items in
    let long = counted g here in
    let start = c.start-basis.ensures in
    let none : length c.in_ok-work.work.pivots.items ≡ 0 = ap length work.pivots in
    let nothing : length c.in_ok-work.work.letters.items ≡ 0 = ap length work.letters in
    record {
      between = record {
        flashing = flashing_begins s case c.args.tol c.new-units.result.spent guessed
            (record { columns = c.keep_guessed.new.columns; pivots = c.in_ok-work.work.pivots; letters = c.in_ok-work.work.letters; rounds = c.in_ok-work.work.rounds })
            c.start-basis.result.at (kept g here) c.keep_guessed.ensures.few long work.pivots work.letters work.rounds units.spent start.places (start.basis c.keep_guessed.new.columns.items (columns g here));
        room = record {
          columns = omega (arith, c.keep_guessed.ensures.room, c.keep_guessed.ensures.few, c.keep_pure.ensures.room, work.column, units.budget, c.requires.components, case.few);
          pivots = omega (arith, work.room.pivots, units.budget, units.spent);
          letters = omega (arith, work.room.letters, units.budget, units.spent);
          rounds = omega (arith, work.room.rounds, units.budget, units.spent);
        };
        counted = record { columns = omega (arith, long, c.keep_guessed.ensures.few, case.few); pivots = omega (arith, none); letters = omega (arith, nothing) };
      };
      budget = units.budget;
    }

-- ---- a round
pub next_stage-stage-requires-clause-between : goal.next_stage-stage-requires-clause-between
next_stage-stage-requires-clause-between g c = c.loop-work.invariant.between

pub loop-work-smaller : goal.loop-work-smaller
loop-work-smaller g c =
    let e = c.next_stage-stage.ensures in
    let one : units_of c.next_stage-stage.result.found ≡ 1 = ap units_of c.in-Refuted.is in
    omega (arith, e.spent, e.budget, one, c.next_stage-stage.new.units.within)

pub loop-work-preserved : goal.loop-work-preserved
loop-work-preserved g c =
    let e = c.next_stage-stage.ensures in
    record {
      between = rw c.in-Refuted.is at e.after;
      budget = e.budget ∙ c.loop-work.invariant.budget;
    }

-- ---- the last one
last : (g : _) (c : In_default g) →
    IsAfterRounds (g.S.Surface.bounds c.args.surface.now) c.args.case.now c.args.tol c.next_stage-stage.new.units c.next_stage-stage.new.work c.next_stage-stage.new.basis.at c.rivals-rivals.result.items
    c.next_stage-stage.result
last g c =
    let stage = c.next_stage-stage in
    is_last (g.S.Surface.bounds c.args.surface.now) c.args.case.now c.args.tol stage.new.units stage.new.work stage.new.basis.at c.rivals-rivals.result.items stage.result stage.result.found
    c.in_default.not-Refuted stage.ensures.after

pub split_by-split-requires : goal.split_by-split-requires
split_by-split-requires g c =
    let here = (goal.at.split_by-split-requires g c).In_default in
    let after = last g here in
    record {
      columns = are_columns (g.S.Surface.bounds c.args.surface.now) c.args.case.now c.next_stage-stage.new.work.columns.items (sym c.requires.components) after.few after.kept;
      basis = after.basis;
      place = after.choice.place;
    }

pub answer_of-requires : goal.answer_of-requires
answer_of-requires g c = record {
  ends = has_low c.next_stage-stage.result.found c.in_default.not-Refuted;
  low = c.next_stage-stage.ensures.low;
  up = c.next_stage-stage.ensures.up;
}

pub returns-in-loop-work : goal.returns-in-loop-work
returns-in-loop-work g c =
    let stage = c.next_stage-stage in
    let here = (goal.at.returns-in-loop-work g c).In_default in
    lawful (g.S.Surface.bounds c.args.surface.now) c.args.case.now c.args.tol c.args.budget stage.new.units stage.new.work stage.new.basis.at c.rivals-rivals.result.items stage.result c.split_by-split.result
    c.answer_of.result (sym c.requires.components) c.rivals-rivals.ensures.rivals (last g here) c.split_by-split.ensures c.answer_of.ensures (stage.ensures.budget ∙ c.loop-work.invariant.budget)
