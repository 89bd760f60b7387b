-- What a search under a plane leaves: a letter for each cell, and how it ends.
use Rattle.std.specs.Prelude.{ℕ, ◌≡◌, ◌⊎◌, List, [], ◌++◌, map, cond, IsTrue, IsFalse, IsSomeAnd, Option, Some, None, ℤ, neg_ℤ, ◌-ℤ◌, ◌≤ℤ◌, ◌<ℤ◌, int_lt}
use Rattle.case_types.specs.declared.rounds.Column.{Column}
use Rattle.case_types.specs.Grid.Cells.{Region, region_of, root_region, misses, edge_to_halve, Mark, Misses, Plain, Sloped, Tree, Step, Ends, Halves, Visit, visits, letters_of, HasVisit, HasLow, GridPoint, midpoint}
use Rattle.case_types.specs.Grid.Columns.{point_of, plane_at_point}
use Rattle.case_types.specs.Grid.Visits.{HasUnitEdge, EachVisit, OfHand}
use Rattle.energy_surface.specs.declared.found.Found.{Found}
use Rattle.energy_surface.specs.declared.found.Found.TheVariants.{AllClear, Refuted, Spent, Grain}
use Rattle.energy_surface.specs.Columns.{IsColumn, Refutes, point_up}
use Rattle.energy_surface.specs.Surfaces.{Surface, Under, plain_low, slope_low, low_by, IsLeafOver}

-- ---- a cell under a plane
-- the slope low is there and clears the cell
abbrev pub IsSlopeClear : Under → Region → Type 0
IsSlopeClear u r = HasLow (neg_ℤ u.delta) (slope_low u.surface u.plane r)

-- the cell holds compositions, and neither low clears it
pub record IsUncleared (u : Under) (r : Region) : Type 0 where
  pub meets : IsFalse (misses u.surface.count r)
  pub below : plain_low u.surface u.plane r <ℤ neg_ℤ u.delta
  pub not_sloped : IsSlopeClear u r → ⊥

-- the middle of the cell cuts the plane off
abbrev pub MiddleRefutes : Under → Region → Type 0
MiddleRefutes u r = IsSomeAnd (midpoint u.surface.count r) (Refutes u)

-- the cell isn't cleared, and its middle doesn't cut the plane off
pub record IsStuck (u : Under) (r : Region) : Type 0 where
  pub uncleared : IsUncleared u r
  pub not_refuting : MiddleRefutes u r → ⊥

-- ---- letters
-- the letter of a cell has its cause; `s` stands only where the plain low doesn't clear the cell
abbrev pub HasStepCause : Under → Region → Step → Type 0
HasStepCause u r (Ends Misses) = IsTrue (misses u.surface.count r)
HasStepCause u r (Ends Plain) = IsFalse (misses u.surface.count r) × (neg_ℤ u.delta ≤ℤ plain_low u.surface u.plane r)
HasStepCause u r (Ends Sloped) = IsFalse (misses u.surface.count r) × (plain_low u.surface u.plane r <ℤ neg_ℤ u.delta) × IsSlopeClear u r
HasStepCause u r (Halves edge) = IsStuck u r × (HasUnitEdge u.surface.count r → ⊥) × (edge ≡ edge_to_halve u.surface.count r)

-- so has the letter of every visit
abbrev pub HaveCauses : Under → List Visit → Type 0
HaveCauses u vs = EachVisit (λ v. HasStepCause u v.region v.step) vs

-- ---- the least low of a walk
-- a leaf misses, or its low is at least this
abbrev pub IsStepOver : Surface → List ℤ → ℤ → Region → Step → Type 0
IsStepOver s lam low r (Ends mark) = IsLeafOver s lam low mark r
IsStepOver s lam low r (Halves edge) = Unit {0}

-- it is a leaf of this low
abbrev pub IsStepAt : Surface → List ℤ → ℤ → Region → Step → Type 0
IsStepAt s lam low r (Ends mark) = low_by s lam r mark ≡ Some low
IsStepAt s lam low r (Halves edge) = ⊥

-- no leaf that doesn't miss has a lower low, and one has this
pub record IsLeastLow (s : Surface) (lam : List ℤ) (low : ℤ) (vs : List Visit) : Type 0 where
  pub over : EachVisit (λ v. IsStepOver s lam low v.region v.step) vs
  pub reached : HasVisit (λ v. IsStepAt s lam low v.region v.step) vs

-- ---- the end of a search
-- the least low of the leaves, but not where the plane is cut off
abbrev pub low_of : Found → Option ℤ
low_of (AllClear low) = Some low
low_of (Refuted kept) = None
low_of (Spent low) = Some low
low_of (Grain low cell) = Some low

-- the column lies at most as far above the plane as the point does
abbrev pub IsNoHigher : Under → Column → GridPoint → Type 0
IsNoHigher u col g =
    (col.up -ℤ plane_at_point u.surface.count u.plane (point_of col)) ≤ℤ (point_up u.surface g -ℤ plane_at_point u.surface.count u.plane g)

-- the middle of the cell in hand cuts the plane off, and the column that is kept does so no less
pub record IsCutOff (u : Under) (kept : Column) (hand : Region) : Type 0 where
  pub uncleared : IsUncleared u hand
  pub at_middle : IsSomeAnd (midpoint u.surface.count hand) (λ g. Refutes u g × IsNoHigher u kept g)
  pub column : IsColumn u.surface kept
  pub refutes : Refutes u (point_of kept)

-- the cell in hand wants a unit: to keep its middle, or to be halved
pub record WantsUnit (u : Under) (hand : Region) : Type 0 where
  pub uncleared : IsUncleared u hand
  pub wants : MiddleRefutes u hand ⊎ (HasUnitEdge u.surface.count hand → ⊥)

-- the cell in hand is this one, which can be neither cleared nor halved
pub record IsGrainOf (u : Under) (cell hand : Region) : Type 0 where
  pub same : hand ≡ cell
  pub stuck : IsStuck u hand
  pub one_unit : HasUnitEdge u.surface.count hand

-- why a search ends, by the cells that have no letter yet
abbrev pub HasEndCause : Under → Found → List Region → Type 0
HasEndCause u (AllClear low) left = left ≡ []
HasEndCause u (Refuted kept) left = OfHand (IsCutOff u kept) left
HasEndCause u (Spent low) left = OfHand (WantsUnit u) left
HasEndCause u (Grain low cell) left = OfHand (IsGrainOf u (region_of cell)) left

-- which of two lows a cell stands by: the slope low where it is there and above the plain one
abbrev pub mark_by : ℤ → Option ℤ → Mark
mark_by plain None = Plain
mark_by plain (Some sloped) = cond (int_lt plain sloped) Sloped Plain

-- a cell that is left when a search stops: `m` where it misses, else by the greater of its lows
abbrev pub left_mark : Surface → List ℤ → Region → Mark
left_mark s lam r = cond (misses s.count r) Misses (mark_by (plain_low s lam r) (slope_low s lam r))

abbrev pub left_visit : Surface → List ℤ → Region → Visit
left_visit s lam r = record { region = r; step = Ends (left_mark s lam r) }

-- the cells that are left get leaf letters, but not where the plane is cut off
abbrev pub closing : Surface → List ℤ → Option ℤ → List Region → List Visit
closing s lam None left = []
closing s lam (Some low) left = map (left_visit s lam) left

-- the low is the least of the whole walk
abbrev pub HasLeastLow : Surface → List ℤ → Option ℤ → List Visit → Type 0
HasLeastLow s lam None vs = Unit {0}
HasLeastLow s lam (Some low) vs = IsLeastLow s lam low vs

-- the plane was searched: over a tree of the whole domain each cell got its letter for a cause, up to the cell in hand
pub record IsSearched (u : Under) (found : Found) (letters : List ℕ) : Type 0 where
  pub tree : Tree
  -- the cells that have their letter, and those that are left, the cell in hand first
  pub before : List Visit
  pub left : List Region
  pub preorder : visits tree (root_region u.surface.count) ≡ before ++ map (left_visit u.surface u.plane) left
  pub caused : HaveCauses u before
  pub ends : HasEndCause u found left
  pub written : letters ≡ letters_of (before ++ closing u.surface u.plane (low_of found) left)
  pub low : HasLeastLow u.surface u.plane (low_of found) (visits tree (root_region u.surface.count))
