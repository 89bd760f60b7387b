-- The answer of a flash.
use Rattle.std.proofs.Common.{◌≡◌, ℕ, ◌^◌, ◌≤◌, List, Some, ℤ, ◌-ℤ◌, to_z, of_z, FitsSigned, unsigned_abs, refl, ◌∙◌, subst, inl, inr, arith}
use Rattle.std.specs.Int.{w128}
use Rattle.std.proofs.lemmas.Int.{ints, fits_signed_from_abs}
use Rattle.log_laws.proofs.Exports.{back}
use Rattle.std.specs.Prelude.{IsSome}
use Rattle.case_types.specs.declared.answers.Answer.{Answer}
use Rattle.case_types.specs.declared.answers.Outcome.TheVariants as Outcomes
use Rattle.case_types.specs.declared.answers.Work.{Work}
use Rattle.case_types.specs.declared.cases.Case.{Case}
use Rattle.case_types.specs.declared.phases.Split.{Split}
use Rattle.case_types.specs.declared.rounds.Column.{Column}
use Rattle.case_types.specs.declared.units.Units.{Units}
use Rattle.energy_surface.specs.declared.found.Found.{Found}
use Rattle.energy_surface.specs.declared.found.Found.TheVariants.{AllClear, Refuted, Spent, Grain}
use Rattle.energy_surface.specs.Lawful.{IsLawful}
use Rattle.energy_surface.specs.Outcomes.{HasCause, delta_of, outcome_of}
use Rattle.energy_surface.specs.Searches.{low_of}
use Rattle.energy_surface.specs.Surfaces.{Surface, under}
use Rattle.box_search.specs.Found.{IsFound}
use Rattle.surface_rounds.specs.declared.splits.Rival.{Rival}
use Rattle.surface_rounds.specs.declared.stages.Stage.{Stage}
use Rattle.surface_rounds.specs.Answering.{IsAnswerOf}
use Rattle.surface_rounds.specs.Choices.{IsSplitBy}
use Rattle.surface_rounds.specs.Flashing.{IsAfterRounds, IsAfterRound, IsStopped}
use Rattle.surface_rounds.specs.Rivals.{AreRivals}
use Rattle.surface_rounds.proofs.ChosenSplits.{split_by_guess, split_by_energy}
use Rattle.surface_rounds.proofs.OnTheWay.{are_columns}

-- ---- the gap
pub gap_fits : (u at low : ℤ) → unsigned_abs u ≤ 2 ^ 109 → unsigned_abs at ≤ 2 ^ 114 → unsigned_abs low ≤ 2 ^ 107 →
    FitsSigned w128 (to_z w128 (of_z w128 (to_z w128 (of_z w128 u) -ℤ to_z w128 (of_z w128 at))) -ℤ to_z w128 (of_z w128 low))
gap_fits u at low h k l = rw (back u (omega (arith, h)), back at (omega (arith, k)), back low (omega (arith, l))) (part (u -ℤ at) low (omega (arith, ints, h, k)) l)
  where
    part : (z low : ℤ) → unsigned_abs z ≤ 2 ^ 115 → unsigned_abs low ≤ 2 ^ 107 → FitsSigned w128 (to_z w128 (of_z w128 z) -ℤ low)
    part z low h l = rw (back z (omega (arith, h))) (fits_signed_from_abs w128 (z -ℤ low) (omega (arith, ints, h, l)))

pub gap_read : (u at low : ℤ) → unsigned_abs u ≤ 2 ^ 109 → unsigned_abs at ≤ 2 ^ 114 → unsigned_abs low ≤ 2 ^ 107 →
    to_z w128 (of_z w128 (to_z w128 (of_z w128 (to_z w128 (of_z w128 u) -ℤ to_z w128 (of_z w128 at))) -ℤ to_z w128 (of_z w128 low))) ≡ (u -ℤ at) -ℤ low
gap_read u at low h k l =
    rw (back u (omega (arith, h)), back at (omega (arith, k)), back low (omega (arith, l)), back (u -ℤ at) (omega (arith, ints, h, k)))
    (back ((u -ℤ at) -ℤ low) (omega (arith, ints, h, k, l)))

-- ---- the last round
-- a round that does not cut its plane off is the last one
pub is_last : (s : Surface) (c : Case) (tol : ℕ) (units : Units) (w : Work) (at : List ℕ) (rivals : List Rival) (stage : Stage) (found : Found) → ((kept : Column) → found ≡ Refuted kept → ⊥) →
    IsAfterRound s c tol units w at rivals stage found → IsAfterRounds s c tol units w at rivals stage
is_last s c tol units w at rivals stage (AllClear low) not after = after
is_last s c tol units w at rivals stage (Refuted kept) not after = absurd (not kept refl)
is_last s c tol units w at rivals stage (Spent low) not after = after
is_last s c tol units w at rivals stage (Grain low cell) not after = after

pub has_low : (found : Found) → ((kept : Column) → found ≡ Refuted kept → ⊥) → IsSome (low_of found)
has_low (AllClear low) not = refl
has_low (Refuted kept) not = absurd (not kept refl)
has_low (Spent low) not = refl
has_low (Grain low cell) not = refl

-- why the flash ended
after_search : (s : Surface) (tol budget : ℕ) (a : Answer) (found : Found) (units : Units) → outcome_of found ≡ Some a.outcome → low_of found ≡ Some a.low →
    IsFound (under s a.plane.lam (delta_of tol)) units found → a.units ≡ units.spent → units.budget ≡ budget → HasCause s tol budget a a.outcome
after_search s tol budget a (AllClear low) units o l is spent whole =
    let ends : Outcomes.Closed ≡ a.outcome = cc in
    let same : low ≡ a.low = cc in
    subst (HasCause s tol budget a) ends (omega (arith, ints, same, is))
after_search s tol budget a (Refuted kept) units o l is spent whole = absurd (cc o)
after_search s tol budget a (Spent low) units o l is spent whole =
    let ends : Outcomes.Spent ≡ a.outcome = cc in
    let same : low ≡ a.low = cc in
    subst (HasCause s tol budget a) ends (inl (omega (arith, ints, same, is.0)), spent ∙ is.1 ∙ whole)
after_search s tol budget a (Grain low cell) units o l is spent whole =
    let ends : Outcomes.Grain cell ≡ a.outcome = cc in
    let same : low ≡ a.low = cc in
    subst (HasCause s tol budget a) ends (omega (arith, ints, same, is.0), is.1)

cause_of : (s : Surface) (tol budget : ℕ) (a : Answer) (found : Found) (units : Units) → outcome_of found ≡ Some a.outcome → low_of found ≡ Some a.low →
    IsStopped s tol units a.plane found → a.units ≡ units.spent → units.budget ≡ budget → HasCause s tol budget a a.outcome
cause_of s tol budget a found units o l is spent whole =
    elim is [
      | inl k ↦ after_search s tol budget a found units o l k spent whole
      | inr k ↦
          let ends : Outcomes.Spent ≡ a.outcome = unsearched _ k.0 in
          subst (HasCause s tol budget a) ends (inr (low_there _ k.0), spent ∙ k.1 ∙ whole)
    ]
  where
    unsearched : (low : ℤ) → found ≡ Spent low → Outcomes.Spent ≡ a.outcome
    unsearched low e = let k : Some Outcomes.Spent ≡ Some a.outcome = rw e at o in cc

    low_there : (low : ℤ) → found ≡ Spent low → a.low ≡ low
    low_there low e = let k : Some low ≡ Some a.low = rw e at l in cc

-- ---- the answer
pub lawful : (s : Surface) (c : Case) (tol budget : ℕ) (units : Units) (w : Work) (at : List ℕ) (rivals : List Rival) (stage : Stage) (split : Split) (a : Answer) → s.count ≡ c.n →
    AreRivals s c rivals → IsAfterRounds s c tol units w at rivals stage → IsSplitBy c w.columns.items at rivals stage.chosen.choice split →
    IsAnswerOf c split stage units.spent w a → units.budget ≡ budget → IsLawful s c tol budget a
lawful s c tol budget units w at rivals stage split a count are after by is whole =
    let good = are_columns s c w.columns.items count after.few after.kept in
    let guess = split_by_guess s c w.columns.items at rivals count after.basis after.kept.columns are.each stage.chosen.choice split good after.choice.place by in
    let up = after.choice.energy ∙ split_by_energy s c w.columns.items at rivals count after.basis after.kept.columns are.each stage.chosen.choice split after.choice.place by in
    record {
      answer = record {
        components = count;
        divides = rw is.split guess.divides;
        upper = rw is.split (is.u ∙ up);
        gap = is.gap;
        low = rw is.plane (after.over a.low is.low);
        within = omega (arith, is.units, units.within, whole);
        cause = cause_of s tol budget a stage.found units is.outcome is.low (rw is.plane after.found) is.units whole;
      };
      basis = at;
      found = stage.found;
      work = rw (is.units, is.work, is.plane, is.u) after.work;
      outcome = is.outcome;
      low = is.low;
      phases = rw is.split guess.shallow;
    }
