-- Columns of a linear program, and its bases: as many columns as components, of which some mixture is the feed.
use Rattle.std.specs.Prelude.{ℕ, ◌^◌, ◌<◌, ◌≤◌, ◌≡◌, ◌≢◌, if◌then◌else◌, nat_eq, List, [], ◌∷◌, length, ℤ, pos, ◌≤ℤ◌, slice_index, slice_index_or, unsigned_abs}
use Rattle.case_types.specs.declared.cases.Case.{Case}
use Rattle.case_types.specs.declared.rounds.Column.{Column}
use Rattle.case_types.specs.Energy.Components.{feed}
use Rattle.case_types.specs.Grid.Columns.{IsGridPoint, point_of}
use Rattle.energy_surface.specs.Program.Determinants.{determinant}
use Rattle.energy_surface.specs.Program.Solutions.{amount}

-- what stands past the end of a list of columns
abbrev pub no_column : Column
no_column = record { comp = []; packing = 0; up = pos 0; cost = pos 0 }

abbrev pub column_at : List Column → ℕ → Column
column_at cols j = slice_index_or cols j no_column

abbrev pub composition : Column → ℕ → ℤ
composition col i = pos (slice_index col.comp i)

-- the compositions of the columns at these places, one a row
abbrev pub system : List Column → List ℕ → ℕ → ℕ → ℤ
system cols at k = composition (column_at cols (slice_index at k))

-- and their costs
abbrev pub costs_of : List Column → List ℕ → ℕ → ℤ
costs_of cols at k = (column_at cols (slice_index at k)).cost

abbrev pub feed_of : Case → ℕ → ℤ
feed_of c i = pos (feed c i)

-- columns that a linear program takes: grid points of bounded cost, the pure ones first
pub record AreColumns (n : ℕ) (cols : List Column) : Type 0 where
  pub few : length cols < 2 ^ 32
  pub points : (j : ℕ) → j < length cols → IsGridPoint n (point_of (column_at cols j))
  pub costs : (j : ℕ) → j < length cols → unsigned_abs (column_at cols j).cost ≤ 2 ^ 39
  pub enough : n ≤ length cols
  pub pure : (k i : ℕ) → k < n → i < n → slice_index (column_at cols k).comp i ≡ (if nat_eq i k then 2 ^ 20 else 0)

-- n columns of determinant other than 0 that make the feed by amounts that aren't negative
pub record IsBasis (c : Case) (cols : List Column) (at : List ℕ) : Type 0 where
  pub inside : (k : ℕ) → k < c.n → slice_index at k < length cols
  pub spans : determinant c.n (system cols at) ≢ pos 0
  pub feeds : (k : ℕ) → k < c.n → pos 0 ≤ℤ amount c.n (system cols at) (feed_of c) k

-- the basis of the first n columns
abbrev pub start_places : List ℕ
start_places = 0 ∷ 1 ∷ 2 ∷ 3 ∷ []
