-- The rounds of a flash, each by what the lists of work hold of it.
use Rattle.std.specs.Prelude.{ℕ, ◌≡◌, ◌+◌, ◌*◌, ◌^◌, ◌<◌, ◌⊎◌, List, [], ◌∷◌, take, length, All, Some, slice_get, slice_range, ℤ, pos, ◌+ℤ◌, ◌≤ℤ◌}
use Rattle.case_types.specs.declared.answers.Work.{Work}
use Rattle.case_types.specs.declared.cases.Case.{Case}
use Rattle.case_types.specs.declared.pivots.Pivot.{Pivot}
use Rattle.case_types.specs.declared.rounds.Column.{Column}
use Rattle.case_types.specs.declared.rounds.Round.{Round}
use Rattle.case_types.specs.declared.rounds.RoundEnd.{RoundEnd}
use Rattle.case_types.specs.declared.rounds.RoundEnd.TheVariants as Ends
use Rattle.case_types.specs.Arithmetic.Bounds.{plane_at}
use Rattle.case_types.specs.Arithmetic.Splits.{phases_up}
use Rattle.case_types.specs.Grid.Cells.{root_region}
use Rattle.case_types.specs.Grid.Columns.{point_of, plane_at_point}
use Rattle.energy_surface.specs.declared.found.Found.{Found}
use Rattle.energy_surface.specs.declared.found.Found.TheVariants.{AllClear, Refuted, Spent, Grain}
use Rattle.energy_surface.specs.Outcomes.{delta_of}
use Rattle.energy_surface.specs.Program.Bases.{system, start_places}
use Rattle.energy_surface.specs.Program.Pivots.{IsEntering, IsOptimal, ArePivots}
use Rattle.energy_surface.specs.Program.Planes.{plane_of}
use Rattle.energy_surface.specs.Program.Solutions.{size}
use Rattle.energy_surface.specs.Program.Splits.{phases_below}
use Rattle.energy_surface.specs.Scans.{scan_packing, one_phase_up}
use Rattle.energy_surface.specs.Searches.{IsSearched}
use Rattle.energy_surface.specs.Surfaces.{Surface, under, plain_low}

-- where the lists of work stand when a round begins, and the columns of its basis then
pub record Start : Type 0 where
  pub columns : ℕ
  pub pivots : ℕ
  pub letters : ℕ
  pub basis : List ℕ

-- what the lists of work hold of a round: the columns that were kept before it, its pivots and its letters
pub record Own : Type 0 where
  pub columns : List Column
  pub pivots : List Pivot
  pub letters : List ℕ

-- they are read from the finished lists by the marks of the round
abbrev pub own_of : Work → Start → Round → Own
own_of w start r = record {
  columns = take r.columns w.columns.items;
  pivots = slice_range w.pivots.items start.pivots r.pivots;
  letters = slice_range w.letters.items r.from r.to;
}

-- how the end of a search is noted
abbrev pub round_end : Found → RoundEnd
round_end (AllClear low) = Ends.Clear
round_end (Refuted kept) = Ends.Refuted
round_end (Spent low) = Ends.Spent
round_end (Grain low cell) = Ends.Grain

-- a quarter of the tolerance, in 2^-40 bit
abbrev pub quarter_of : ℕ → ℤ
quarter_of tol = pos (tol * 2 ^ 18)

-- a 64th of the tolerance, in 2^-40 bit: a split may be taken that lies above the lowest one by no more
abbrev pub slack_of : ℕ → ℤ
slack_of tol = pos (tol * 2 ^ 14)

-- the upper energy of the split of a basis
abbrev pub basis_up : Surface → Case → List Column → List ℕ → ℤ
basis_up s c cols at = phases_up s.count s.up (c.total * size c.n (system cols at)) (phases_below c cols at c.n)

-- the energy lies above no state of one phase that the scan tries by more than the slack
abbrev pub IsNearScan : Surface → Case → ℕ → ℤ → Type 0
IsNearScan s c tol u = (k : ℕ) → k < 64 → u ≤ℤ (one_phase_up s c (scan_packing k) +ℤ slack_of tol)

-- the plane is that of the basis, over which no column has a negative price; none lies below it by more than a quarter of the
-- tolerance, and the energy of the split lies above it at the feed by no more than that
pub record IsFair (s : Surface) (c : Case) (tol : ℕ) (cols : List Column) (basis : List ℕ) (r : Round) : Type 0 where
  pub plane : r.plane.lam ≡ plane_of c.n cols basis
  pub optimal : IsOptimal c.n cols basis
  pub no_deeper : All (λ (col : Column). plane_at_point s.count r.plane.lam (point_of col) ≤ℤ (col.up +ℤ quarter_of tol)) cols
  pub near : r.u ≤ℤ (plane_at c.n r.plane.lam c.z c.total +ℤ quarter_of tol)

-- a round whose plane is searched; the energy of its split lies above that of the basis by no more than the slack
pub record IsSearchedRound (s : Surface) (c : Case) (tol : ℕ) (own : Own) (basis : List ℕ) (r : Round) (found : Found) : Type 0 where
  pub fair : IsFair s c tol own.columns basis r
  pub near_basis : r.u ≤ℤ (basis_up s c own.columns basis +ℤ slack_of tol)
  pub searched : IsSearched (under s r.plane.lam (delta_of tol)) found own.letters

-- a round that has no unit left for a pivot: the plane is that of the pure columns, and the tree is one leaf
pub record IsCutShort (s : Surface) (c : Case) (own : Own) (basis : List ℕ) (r : Round) (found : Found) : Type 0 where
  pub enter : ℕ
  pub wanted : IsEntering c.n own.columns basis enter
  pub plane : r.plane.lam ≡ plane_of c.n own.columns start_places
  pub one_leaf : own.letters ≡ 112 ∷ []
  pub spent : found ≡ Spent (plain_low s r.plane.lam (root_region s.count))

-- a round from its start, with the basis after its pivots and what its search finds
pub record IsRound (s : Surface) (c : Case) (tol : ℕ) (start : Start) (own : Own) (r : Round) (basis : List ℕ) (found : Found) : Type 0 where
  pub columns : r.columns ≡ start.columns
  pub pivots_to : r.pivots ≡ start.pivots + length own.pivots
  pub from : r.from ≡ start.letters
  pub to : r.to ≡ start.letters + length own.letters
  pub pivots : ArePivots c own.columns start.basis own.pivots basis
  pub near_scan : IsNearScan s c tol r.u
  pub plane : IsSearchedRound s c tol own basis r found ⊎ IsCutShort s c own basis r found
  pub ended : r.end ≡ round_end found

-- where the lists stand after a round whose plane was cut off: one column more is kept
abbrev pub after : Round → List ℕ → Start
after r basis = record { columns = r.columns + 1; pivots = r.pivots; letters = r.to; basis = basis }

-- each round begins where the one before it ended, its plane is cut off, and the column that does so is kept
unfoldable pub AreRefuted : Surface → Case → ℕ → Work → Start → List Round → Start → Type 0
AreRefuted s c tol w start [] last = start ≡ last
AreRefuted s c tol w start (r ∷ rs) last =
    (basis : List ℕ) × (kept : Column) × IsRound s c tol start (own_of w start r) r basis (Refuted kept)
    × (slice_get w.columns.items r.columns ≡ Some kept) × AreRefuted s c tol w (after r basis) rs last
