-- The split that a round chooses.
use Rattle.std.specs.Prelude.{ℕ, ◌≡◌, ◌*◌, ◌^◌, ◌<◌, ◌⊎◌, ⊤, List, length, slice_get, IfSome, ℤ, ◌+ℤ◌, ◌≤ℤ◌, slice_index}
use Rattle.log_laws.specs.Sums.{int_sum_below}
use Rattle.case_types.specs.declared.cases.Case.{Case}
use Rattle.case_types.specs.declared.phases.Split.{Split}
use Rattle.case_types.specs.declared.rounds.Column.{Column}
use Rattle.case_types.specs.Arithmetic.Splits.{share_of_energy}
use Rattle.energy_surface.specs.Program.Bases.{column_at, system}
use Rattle.energy_surface.specs.Program.Solutions.{size}
use Rattle.energy_surface.specs.Program.Splits.{weight_of, IsBasisSplit}
use Rattle.surface_rounds.specs.declared.choices.Choice.{Choice}
use Rattle.surface_rounds.specs.declared.choices.Choice.TheVariants as Choices
use Rattle.surface_rounds.specs.declared.choices.Chosen.{Chosen}
use Rattle.surface_rounds.specs.declared.splits.Rival.{Rival}
use Rattle.surface_rounds.specs.Rivals.{energy_at}

-- the upper energies of the columns of a basis, each by its share
abbrev pub columns_up : Case → List Column → List ℕ → ℤ
columns_up c cols at =
    int_sum_below c.n (λ k. share_of_energy (weight_of c cols at k * 2 ^ 20) (c.total * size c.n (system cols at)) (column_at cols (slice_index at k)).up)

-- the least of the energies of the first rivals and of the basis
pub record IsLeast (rivals : List Rival) (count : ℕ) (basis least : ℤ) : Type 0 where
  pub no_rival : (k : ℕ) → k < count → least ≤ℤ energy_at rivals k
  pub not_basis : least ≤ℤ basis
  pub one : (least ≡ basis) ⊎ ((k : ℕ) × (k < length rivals) × (least ≡ energy_at rivals k))

-- an energy lies above those of the rivals and of the basis by no more than the slack
pub record IsNear (rivals : List Rival) (basis slack u : ℤ) : Type 0 where
  pub rival : (k : ℕ) → k < length rivals → u ≤ℤ (energy_at rivals k +ℤ slack)
  pub of_basis : u ≤ℤ (basis +ℤ slack)

-- how many rivals come before a choice
abbrev pub place_of : List Rival → Choice → ℕ
place_of rivals (Choices.Rival k) = k
place_of rivals Choices.OfBasis = length rivals

abbrev pub energy_of : List Rival → ℤ → Choice → ℤ
energy_of rivals basis (Choices.Rival k) = energy_at rivals k
energy_of rivals basis Choices.OfBasis = basis

abbrev pub IsPlace : List Rival → Choice → Type 0
IsPlace rivals (Choices.Rival k) = k < length rivals
IsPlace rivals Choices.OfBasis = ⊤

-- it is near, and no rival before it is
pub record IsChosen (rivals : List Rival) (basis slack : ℤ) (x : Chosen) : Type 0 where
  pub place : IsPlace rivals x.choice
  pub energy : x.u ≡ energy_of rivals basis x.choice
  pub near : IsNear rivals basis slack x.u
  pub first : (k : ℕ) → k < place_of rivals x.choice → IsNear rivals basis slack (energy_at rivals k) → ⊥

-- the split that is chosen
abbrev pub IsSplitBy : Case → List Column → List ℕ → List Rival → Choice → Split → Type 0
IsSplitBy c cols at rivals (Choices.Rival k) s = IfSome (slice_get rivals k) (λ r. s ≡ r.split)
IsSplitBy c cols at rivals Choices.OfBasis s = IsBasisSplit c cols at s
