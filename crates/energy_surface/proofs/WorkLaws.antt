-- Proofs of the laws of lawful answers.
use Rattle.std.proofs.Common.{◌≡◌, ℕ, ◌+◌, ◌*◌, ◌^◌, ◌<◌, List, [], ◌∷◌, ◌++◌, length, take, Some, get_or, cond, ℤ, pos, neg_ℤ, ◌+ℤ◌, ◌-ℤ◌, ◌≤ℤ◌, ◌<ℤ◌, subst, refl, sym, ap, ◌∙◌, inl, inr, arith, length-append}
use Rattle.std.specs.Prelude.{slice_get}
use Rattle.std.proofs.lemmas.Int.{ints}
use Rattle.std.proofs.lemmas.List.{length-take, get_or-take}
use Rattle.std.proofs.lemmas.List.Sums.{sum_by-append}
use Rattle.std.proofs.lemmas.Option.{get_or_from_slice_get, slice_get_within}
use Rattle.case_types.specs.declared.answers.Answer.{Answer}
use Rattle.case_types.specs.declared.answers.Outcome.{Outcome}
use Rattle.case_types.specs.declared.answers.Outcome.TheVariants as Outcomes
use Rattle.case_types.specs.declared.answers.Work.{Work}
use Rattle.case_types.specs.declared.cases.Case.{Case}
use Rattle.case_types.specs.declared.rounds.Column.{Column}
use Rattle.case_types.specs.declared.rounds.Round.{Round}
use Rattle.case_types.specs.Arithmetic.Bounds.{plane_at}
use Rattle.case_types.specs.Grid.Columns.{point_of, plane_at_point}
use Rattle.energy_surface.specs.declared.found.Found.{Found}
use Rattle.energy_surface.specs.declared.found.Found.TheVariants.{AllClear, Refuted, Spent, Grain}
use Rattle.energy_surface.specs.Lawful.{IsLawful, beginning}
use Rattle.energy_surface.specs.Outcomes.{HasCause, delta_of, outcome_of}
use Rattle.energy_surface.specs.Rounds.{Start, Own, own_of, round_end, quarter_of, IsSearchedRound, IsRound, AreRefuted, after}
use Rattle.energy_surface.specs.Surfaces.{Surface, under}
use Rattle.energy_surface.specs.WorkLaws.{is_refuted, refutations, SomeRound, UnitsAreWork, SpentHasWorked, ColumnsAreKept, IsLower, HasPurePlane, AreLower, Falls, PlanesFall, ClosedIsNear}
use Rattle.energy_surface.proofs.Walks.{cuts_off}

-- ---- counts
refutations-append : (rs qs : List Round) → refutations (rs ++ qs) ≡ refutations rs + refutations qs
refutations-append rs qs = sum_by-append (λ (r : Round). cond (is_refuted r.end) 1 0) rs qs

all_refuted : (surface : Surface) (c : Case) (tol : ℕ) (w : Work) (s last : Start) (rs : List Round) → AreRefuted surface c tol w s rs last → (refutations rs ≡ length rs) × (last.columns ≡ s.columns + length rs)
unfolding AreRefuted
all_refuted surface c tol w s last [] h = (refl, rw h (omega arith))
all_refuted surface c tol w s last (r ∷ rs) h =
    let k = all_refuted surface c tol w (after r h.0) last rs h.4 in
    let one : refutations (r ∷ []) ≡ 1 = rw h.2.ended refl in
    let e = refutations-append (r ∷ []) rs in
    (omega (arith, e, one, k.0), omega (arith, k.1, h.2.columns))

last_unrefuted : (found : Found) (r : Round) (o : Outcome) → outcome_of found ≡ Some o → r.end ≡ round_end found → refutations (r ∷ []) ≡ 0
last_unrefuted (AllClear low) r o e h = rw h refl
last_unrefuted (Refuted kept) r o e h = absurd (cc e)
last_unrefuted (Spent low) r o e h = rw h refl
last_unrefuted (Grain low cell) r o e h = rw h refl

-- all rounds but the last are refuted
counted : (surface : Surface) (c : Case) (tol budget : ℕ) (a : Answer) → (h : IsLawful surface c tol budget a) → refutations a.work.rounds.items ≡ length h.work.earlier
counted surface c tol budget a h =
    let one = all_refuted surface c tol a.work (beginning c.n h.work.candidates) h.work.start h.work.earlier h.work.refuted in
    let none = last_unrefuted h.found h.work.last a.outcome h.outcome h.work.ends.ended in
    let e = refutations-append h.work.earlier (h.work.last ∷ []) in
    rw h.work.rounds (omega (arith, e, one.0, none))

pub some_round : SomeRound
some_round surface c tol budget a h = rw (h.work.rounds, length-append) (omega arith)

pub units_are_work : UnitsAreWork
units_are_work surface c tol budget a h = let n = counted surface c tol budget a h in omega (arith, h.work.units, n)

pub spent_has_worked : SpentHasWorked
spent_has_worked surface c tol budget a h spent some =
    let e = units_are_work surface c tol budget a h in
    let cause : HasCause surface tol budget a Outcomes.Spent = rw spent at h.answer.cause in
    omega (arith, e, cause.1, some)

pub columns_are_kept : ColumnsAreKept
columns_are_kept surface c tol budget a h =
    let n = counted surface c tol budget a h in
    let one = all_refuted surface c tol a.work (beginning c.n h.work.candidates) h.work.start h.work.earlier h.work.refuted in
    (h.work.candidates, h.work.few_candidates, omega (arith, n, one.1, h.work.all_columns, h.work.ends.columns))

-- ---- planes
-- a refuted round is no round that was cut short
searched_there : (surface : Surface) (c : Case) (tol : ℕ) (s : Start) (own : Own) (r : Round) (basis : List ℕ) (kept : Column) → IsRound surface c tol s own r basis (Refuted kept) →
    IsSearchedRound surface c tol own basis r (Refuted kept)
searched_there surface c tol s own r basis kept h =
    elim h.plane [
      | inl k ↦ k
      | inr k ↦ absurd (let z = k.spent in cc)
    ]

falls_below : (tol : ℕ) (up at before : ℤ) → at ≤ℤ (up +ℤ quarter_of tol) → (up +ℤ delta_of tol) <ℤ before → at <ℤ before
falls_below tol up at before h k = omega (arith, ints, h, k)

lower : (surface : Surface) (c : Case) (tol : ℕ) (w : Work) (s t : Start) (before r : Round) (basis other : List ℕ) (kept : Column) (found : Found) →
    IsRound surface c tol s (own_of w s before) before basis (Refuted kept) → slice_get w.columns.items before.columns ≡ Some kept → before.columns < r.columns →
    IsSearchedRound surface c tol (own_of w t r) other r found → IsLower surface.count w before r
lower surface c tol w s t before r basis other kept found h at later n =
    let k = searched_there surface c tol s (own_of w s before) before basis kept h in
    let cut = cuts_off (under surface before.plane.lam (delta_of tol)) kept k.searched.left k.searched.ends in
    let there : before.columns < length w.columns.items = slice_get_within w.columns.items before.columns kept at in
    let place : before.columns < length (take r.columns w.columns.items) = rw length-take (omega (arith, there, later)) in
    let same : get_or (take r.columns w.columns.items) before.columns kept ≡ kept =
    get_or-take r.columns w.columns.items before.columns kept later ∙ get_or_from_slice_get w.columns.items before.columns kept kept at in
    let over = rw same at (n.fair.no_deeper before.columns kept place) in (
      kept,
      at,
      falls_below tol kept.up (plane_at_point surface.count r.plane.lam (point_of kept)) (plane_at_point surface.count before.plane.lam (point_of kept)) over (rw cut.0.up cut.1.below),
    )

-- each plane after one that is cut off is lower
all_lower : (surface : Surface) (c : Case) (tol : ℕ) (w : Work) (s t start : Start) (before last : Round) (basis other : List ℕ) (kept : Column) (found : Found) (rs : List Round) →
    surface.count ≡ c.n → IsRound surface c tol s (own_of w s before) before basis (Refuted kept) → slice_get w.columns.items before.columns ≡ Some kept →
    before.columns < t.columns → AreRefuted surface c tol w t rs start → IsRound surface c tol start (own_of w start last) last other found →
    AreLower surface.count w before (rs ++ last ∷ [])
unfolding AreRefuted AreLower
all_lower surface c tol w s t start before last basis other kept found [] count h at later same n =
    let columns : last.columns ≡ t.columns = n.columns ∙ sym (ap (λ (x : Start). x.columns) same) in (
      elim n.plane [
        | inl k ↦ inl (lower surface c tol w s start before last basis other kept found h at (omega (arith, columns, later)) k)
        | inr k ↦ inr (refl, n.ended ∙ ap round_end k.spent, subst (λ m. HasPurePlane m w last) (sym count) k.plane)
      ],
      tt,
    )
all_lower surface c tol w s t start before last basis other kept found (r ∷ rs) count h at later more n =
    let columns : r.columns ≡ t.columns = more.2.columns in (
      inl (lower surface c tol w s t before r basis more.0 kept (Refuted more.1) h at (omega (arith, columns, later))
          (searched_there surface c tol t (own_of w t r) r more.0 more.1 more.2)),
      all_lower surface c tol w s (after r more.0) start before last basis other kept found rs count h at (omega (arith, columns, later)) more.4 n,
    )

falls : (surface : Surface) (c : Case) (tol : ℕ) (w : Work) (s start : Start) (last : Round) (other : List ℕ) (found : Found) (rs : List Round) → surface.count ≡ c.n →
    AreRefuted surface c tol w s rs start → IsRound surface c tol start (own_of w start last) last other found → Falls surface.count w (rs ++ last ∷ [])
unfolding AreRefuted AreLower Falls
falls surface c tol w s start last other found [] count h n = (tt, tt)
falls surface c tol w s start last other found (r ∷ rs) count h n = (
  all_lower surface c tol w s (after r h.0) start r last h.0 other h.1 found rs count h.2 h.3 (omega arith) h.4 n,
  falls surface c tol w (after r h.0) start last other found rs count h.4 n,
)

pub planes_fall : PlanesFall
planes_fall surface c tol budget a h =
    subst (λ rs. Falls surface.count a.work rs) (sym h.work.rounds)
    (falls surface c tol a.work (beginning c.n h.work.candidates) h.work.start h.work.last h.basis h.found h.work.earlier h.answer.components h.work.refuted h.work.ends)

-- ---- the gap
near_gap : (tol : ℕ) (gap u at low : ℤ) → gap ≡ (u -ℤ at) -ℤ low → u ≤ℤ (at +ℤ quarter_of tol) → neg_ℤ (delta_of tol) ≤ℤ low → gap ≤ℤ pos (3 * tol * 2 ^ 18)
near_gap tol gap u at low e near clear = rw e (omega (arith, ints, near, clear))

spent_open : (found : Found) (low : ℤ) (o : Outcome) → outcome_of found ≡ Some o → found ≡ Spent low → o ≡ Outcomes.Closed → ⊥
spent_open found low o h e closed = let k : Some Outcomes.Spent ≡ Some o = rw e at h in cc (k, closed)

pub closed_is_near : ClosedIsNear
closed_is_near surface c tol budget a h closed =
    let cause : HasCause surface tol budget a Outcomes.Closed = rw closed at h.answer.cause in
    elim h.work.ends.plane [
      | inl k ↦ near_gap tol a.gap a.u (plane_at c.n a.plane.lam c.z c.total) a.low h.answer.gap (rw (h.work.u, h.work.plane) k.fair.near) cause
      | inr k ↦ absurd (spent_open h.found _ a.outcome h.outcome k.spent closed)
    ]
