-- The weights of the columns of a basis.
use Rattle.std.specs.Prelude.{ℕ, ◌≡◌, ◌*◌, ◌^◌, ◌<◌, ◌≤◌, List, slice_index}
use Rattle.case_types.specs.declared.cases.Case.{Case}
use Rattle.case_types.specs.declared.rounds.Column.{Column}
use Rattle.energy_surface.specs.Program.Bases.{system}
use Rattle.energy_surface.specs.Program.Solutions.{size}
use Rattle.energy_surface.specs.Program.Splits.{weight_of}
use Rattle.exact_lp.specs.declared.splits.BasisWeights.{BasisWeights}

-- they are the amounts for the feed, of which no column takes more than a mole
pub record AreWeights (c : Case) (cols : List Column) (at : List ℕ) (w : BasisWeights) : Type 0 where
  pub sum : w.sum ≡ c.total * size c.n (system cols at)
  pub some : 1 ≤ w.sum
  pub small : w.sum < 2 ^ 104
  pub weights : (k : ℕ) → k < c.n → slice_index w.of k ≡ weight_of c cols at k
  pub within : (k : ℕ) → k < c.n → slice_index w.of k * 2 ^ 20 ≤ w.sum
  pub light : (k : ℕ) → k < c.n → slice_index w.of k ≤ 2 ^ 80
