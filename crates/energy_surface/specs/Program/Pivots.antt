-- Pivots of the revised simplex method: which column enters a basis, and which leaves it.
use Rattle.std.specs.Prelude.{ℕ, ◌<◌, ◌≤◌, ◌≡◌, ◌⊎◌, List, [], ◌∷◌, length, Option, Some, None, ℤ, pos, ◌*ℤ◌, ◌<ℤ◌, ◌≤ℤ◌, slice_index, slice_set}
use Rattle.case_types.specs.declared.cases.Case.{Case}
use Rattle.case_types.specs.declared.pivots.Pivot.{Pivot}
use Rattle.case_types.specs.declared.rounds.Column.{Column}
use Rattle.energy_surface.specs.Program.Bases.{column_at, composition, system, costs_of, feed_of}
use Rattle.energy_surface.specs.Program.Solutions.{amount, price}

-- the price of a column over a basis
abbrev pub price_of : ℕ → List Column → List ℕ → Column → ℤ
price_of n cols at col = price n (system cols at) (costs_of cols at) (composition col) col.cost

-- the column has a negative price, and none before it has
pub record IsEntering (n : ℕ) (cols : List Column) (at : List ℕ) (j : ℕ) : Type 0 where
  pub inside : j < length cols
  pub cheaper : price_of n cols at (column_at cols j) <ℤ pos 0
  pub first : (i : ℕ) → i < j → pos 0 ≤ℤ price_of n cols at (column_at cols i)

-- no column has a negative price
abbrev pub IsOptimal : ℕ → List Column → List ℕ → Type 0
IsOptimal n cols at = (j : ℕ) → j < length cols → pos 0 ≤ℤ price_of n cols at (column_at cols j)

-- none of the first n columns, which are pure, has one
abbrev pub IsPureOptimal : ℕ → List Column → List ℕ → Type 0
IsPureOptimal n cols at = (j : ℕ) → j < n → pos 0 ≤ℤ price_of n cols at (column_at cols j)

-- the column that enters, or none at an optimum
abbrev pub IsPriced : ℕ → List Column → List ℕ → Option ℕ → Type 0
IsPriced n cols at None = IsOptimal n cols at
IsPriced n cols at (Some j) = IsEntering n cols at j

-- the place leaves: of the places whose columns take part in the entering one it has the least ratio of its amount for the
-- feed to that for the entering column, and of those with this ratio the least column, which is Bland's rule
pub record IsLeaving (c : Case) (cols : List Column) (at : List ℕ) (enter k : ℕ) : Type 0 where
  pub place : k < c.n
  pub takes_part : pos 0 <ℤ amount c.n (system cols at) (composition (column_at cols enter)) k
  pub least : (j : ℕ) → j < c.n → pos 0 <ℤ amount c.n (system cols at) (composition (column_at cols enter)) j →
      let z = amount c.n (system cols at) (feed_of c) in
      let x = amount c.n (system cols at) (composition (column_at cols enter)) in
      ((z k *ℤ x j) <ℤ (z j *ℤ x k)) ⊎ ((z k *ℤ x j) ≡ (z j *ℤ x k)) × (slice_index at k ≤ slice_index at j)

-- pivots one after the other, from a basis to a basis: each enters the first column of negative price, and the place that
-- leaves is that of the rule
unfoldable pub ArePivots : Case → List Column → List ℕ → List Pivot → List ℕ → Type 0
ArePivots c kept at [] last = at ≡ last
ArePivots c kept at (v ∷ vs) last =
    IsEntering c.n kept at v.enter × IsLeaving c kept at v.enter v.leave × ArePivots c kept (slice_set at v.leave v.enter) vs last
