-- The split of a basis: each of its columns is a phase, by its amount for the feed.
use Rattle.std.specs.Prelude.{ℕ, zero, suc, ◌*◌, ◌≡◌, if◌then◌else◌, nat_lt, nat_eq, List, [], ◌∷◌, ◌++◌, slice_index, unsigned_abs}
use Rattle.case_types.specs.declared.cases.Case.{Case}
use Rattle.case_types.specs.declared.phases.Phase.{Phase}
use Rattle.case_types.specs.declared.phases.Split.{Split}
use Rattle.case_types.specs.declared.rounds.Column.{Column}
use Rattle.energy_surface.specs.Program.Bases.{column_at, system, feed_of}
use Rattle.energy_surface.specs.Program.Solutions.{size, amount}

-- the parts of a component in a phase of weight w, and none of those that aren't there
abbrev pub live_part : ℕ → ℕ → List ℕ → ℕ → ℕ
live_part n w x i = if nat_lt i n then w * slice_index x i else 0

-- a column as a phase of weight w
abbrev pub weighted_phase : ℕ → ℕ → Column → Phase
weighted_phase n w col = record {
  parts = live_part n w col.comp 0 ∷ live_part n w col.comp 1 ∷ live_part n w col.comp 2 ∷ live_part n w col.comp 3 ∷ [];
  packing = col.packing;
}

-- and no phase where it weighs nothing
abbrev pub weighted_phases : ℕ → ℕ → Column → List Phase
weighted_phases n w col = if nat_eq w 0 then [] else (weighted_phase n w col ∷ [])

-- what the column at a place of a basis weighs: its amount for the feed
abbrev pub weight_of : Case → List Column → List ℕ → ℕ → ℕ
weight_of c cols at k = unsigned_abs (amount c.n (system cols at) (feed_of c) k)

-- the phases of the places below k, in order
unfoldable pub phases_below : Case → List Column → List ℕ → ℕ → List Phase
phases_below c cols at zero = []
phases_below c cols at (suc k) =
    phases_below c cols at k ++ weighted_phases c.n (weight_of c cols at k) (column_at cols (slice_index at k))

-- the sum stands for a mole of the feed, and the phases are those of the basis
pub record IsBasisSplit (c : Case) (cols : List Column) (at : List ℕ) (s : Split) : Type 0 where
  pub sum : s.sum ≡ c.total * size c.n (system cols at)
  pub phases : s.phases.items ≡ phases_below c cols at c.n
