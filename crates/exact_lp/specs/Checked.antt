-- What the tests check of the columns that they solve.
use Rattle.std.specs.Prelude.{ℕ, ◌^◌, ◌<◌, ◌≤◌, ◌≡◌, if◌then◌else◌, nat_eq, slice_index, unsigned_abs}
use Rattle.case_types.specs.declared.rounds.Column.{Column}
use Rattle.case_types.specs.Grid.Columns.{IsGridPoint, point_of}

-- a grid point whose cost is bounded
abbrev pub IsGood : ℕ → Column → Type 0
IsGood n col = IsGridPoint n (point_of col) × (unsigned_abs col.cost ≤ 2 ^ 39)

-- the composition of the component k alone
abbrev pub IsPure : ℕ → Column → Type 0
IsPure k col = (i : ℕ) → i < 4 → slice_index col.comp i ≡ (if nat_eq i k then 2 ^ 20 else 0)
