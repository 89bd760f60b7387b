-- Laws of lawful answers: what no list of work can be.
use Rattle.std.specs.Prelude.{ℕ, ◌≡◌, ◌+◌, ◌*◌, ◌^◌, ◌≤◌, ◌⊎◌, Bool, true, false, List, [], ◌∷◌, take, length, count_by, Some, slice_get, pos, ◌≤ℤ◌, ◌<ℤ◌}
use Rattle.case_types.specs.declared.answers.Answer.{Answer}
use Rattle.case_types.specs.declared.answers.Outcome.TheVariants.{Closed, Spent as SpentOut}
use Rattle.case_types.specs.declared.answers.Work.{Work}
use Rattle.case_types.specs.declared.cases.Case.{Case}
use Rattle.case_types.specs.declared.rounds.Column.{Column}
use Rattle.case_types.specs.declared.rounds.Round.{Round}
use Rattle.case_types.specs.declared.rounds.RoundEnd.{RoundEnd}
use Rattle.case_types.specs.declared.rounds.RoundEnd.TheVariants.{Clear, Refuted, Spent, Grain}
use Rattle.case_types.specs.Grid.Columns.{point_of, plane_at_point}
use Rattle.case_types.specs.Grid.Visits.{edges_in}
use Rattle.energy_surface.specs.Lawful.{IsLawful}
use Rattle.energy_surface.specs.Program.Bases.{start_places}
use Rattle.energy_surface.specs.Program.Planes.{plane_of}
use Rattle.energy_surface.specs.Surfaces.{Surface}

-- the rounds whose planes are cut off
abbrev pub is_refuted : RoundEnd → Bool
is_refuted Clear = false
is_refuted Refuted = true
is_refuted Spent = false
is_refuted Grain = false

abbrev pub refutations : List Round → ℕ
refutations rs = count_by (λ (r : Round). is_refuted r.end) rs

-- a flash has a round
abbrev pub SomeRound : Type 0
SomeRound = (s : Surface) (c : Case) (tol budget : ℕ) (a : Answer) → IsLawful s c tol budget a → 1 ≤ length a.work.rounds.items

-- each unit is a halving, a refutation or a pivot
abbrev pub UnitsAreWork : Type 0
UnitsAreWork = (s : Surface) (c : Case) (tol budget : ℕ) (a : Answer) → IsLawful s c tol budget a →
    edges_in a.work.letters.items + refutations a.work.rounds.items + length a.work.pivots.items ≡ a.units

-- a budget is never spent without work
abbrev pub SpentHasWorked : Type 0
SpentHasWorked = (s : Surface) (c : Case) (tol budget : ℕ) (a : Answer) → IsLawful s c tol budget a → a.outcome ≡ SpentOut → 1 ≤ budget →
    1 ≤ edges_in a.work.letters.items + refutations a.work.rounds.items + length a.work.pivots.items

-- each refutation keeps a column, beside the pure ones and at most 32 candidates
abbrev pub ColumnsAreKept : Type 0
ColumnsAreKept =
    (s : Surface) (c : Case) (tol budget : ℕ) (a : Answer) → IsLawful s c tol budget a →
    (candidates : ℕ) × (candidates ≤ 32) × (length a.work.columns.items ≡ c.n + candidates + refutations a.work.rounds.items)

-- the plane of a round lies below that of a round before it, at the column that the latter keeps
abbrev pub IsLower : ℕ → Work → Round → Round → Type 0
IsLower n w before r =
    (kept : Column) × (slice_get w.columns.items before.columns ≡ Some kept)
    × (plane_at_point n r.plane.lam (point_of kept) <ℤ plane_at_point n before.plane.lam (point_of kept))

-- the plane of the pure columns among those that were kept before the round
abbrev pub HasPurePlane : ℕ → Work → Round → Type 0
HasPurePlane n w r = r.plane.lam ≡ plane_of n (take r.columns w.columns.items) start_places

-- so does each plane after a round; but the last round may have the plane of the pure columns, where no unit was left
unfoldable pub AreLower : ℕ → Work → Round → List Round → Type 0
AreLower n w before [] = Unit {0}
AreLower n w before (r ∷ rs) = (IsLower n w before r ⊎ ((rs ≡ []) × (r.end ≡ Spent) × HasPurePlane n w r)) × AreLower n w before rs

-- and after each round
unfoldable pub Falls : ℕ → Work → List Round → Type 0
Falls n w [] = Unit {0}
Falls n w (r ∷ rs) = AreLower n w r rs × Falls n w rs

-- no plane is searched twice
abbrev pub PlanesFall : Type 0
PlanesFall = (s : Surface) (c : Case) (tol budget : ℕ) (a : Answer) → IsLawful s c tol budget a → Falls s.count a.work a.work.rounds.items

-- a closed answer has a gap of at most three quarters of the tolerance
abbrev pub ClosedIsNear : Type 0
ClosedIsNear = (s : Surface) (c : Case) (tol budget : ℕ) (a : Answer) → IsLawful s c tol budget a → a.outcome ≡ Closed → a.gap ≤ℤ pos (3 * tol * 2 ^ 18)
