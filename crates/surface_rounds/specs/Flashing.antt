-- A flash between its rounds, and what a round leaves.
use Rattle.std.specs.Prelude.{ℕ, ◌≡◌, ◌+◌, ◌-◌, ◌^◌, ◌<◌, ◌≤◌, ◌⊎◌, List, ◌++◌, length, All, Some, slice_range, ℤ}
use Rattle.case_types.specs.Spared.{Spared}
use Rattle.case_types.specs.declared.answers.Work.{Work}
use Rattle.case_types.specs.declared.cases.Case.{Case}
use Rattle.case_types.specs.declared.pivots.Pivot.{Pivot}
use Rattle.case_types.specs.declared.planes.Plane.{Plane}
use Rattle.case_types.specs.declared.rounds.Column.{Column}
use Rattle.case_types.specs.declared.units.Units.{Units}
use Rattle.case_types.specs.Grid.Cells.{root_region}
use Rattle.case_types.specs.Grid.Visits.{edges_in}
use Rattle.energy_surface.specs.declared.found.Found.{Found}
use Rattle.energy_surface.specs.declared.found.Found.TheVariants.{AllClear, Refuted, Spent, Grain}
use Rattle.energy_surface.specs.Columns.{IsColumn}
use Rattle.energy_surface.specs.Lawful.{IsPureColumn, IsListOfWork, beginning}
use Rattle.energy_surface.specs.Outcomes.{delta_of}
use Rattle.energy_surface.specs.Program.Bases.{column_at, IsBasis}
use Rattle.energy_surface.specs.Program.Pivots.{ArePivots}
use Rattle.energy_surface.specs.Rounds.{Start, AreRefuted, slack_of}
use Rattle.energy_surface.specs.Searches.{low_of}
use Rattle.energy_surface.specs.Surfaces.{Surface, under, plain_low, IsOver}
use Rattle.box_search.specs.Found.{IsFound}
use Rattle.surface_rounds.specs.declared.stages.Stage.{Stage}
use Rattle.surface_rounds.specs.declared.splits.Rival.{Rival}
use Rattle.surface_rounds.specs.Choices.{columns_up, IsChosen}
use Rattle.surface_rounds.specs.Room.{HasRoom, IsCounted}

-- the columns of a flash: those of the pure components, candidates, and one for each plane that was cut off
pub record AreKept (s : Surface) (c : Case) (cols : List Column) : Type 0 where
  pub columns : All (λ (col : Column). IsColumn s col) cols
  pub enough : c.n ≤ length cols
  pub pure : (k : ℕ) → k < c.n → IsPureColumn s k (column_at cols k)

-- the columns of the first n components alone, in their order
pub record ArePure (s : Surface) (n : ℕ) (cols : List Column) : Type 0 where
  pub columns : All (λ (col : Column). IsColumn s col) cols
  pub counted : length cols ≡ n
  pub pure : (k : ℕ) → k < n → IsPureColumn s k (column_at cols k)

-- all planes so far are cut off, and pivots since the last of them have led to the basis
pub record IsFlashing (s : Surface) (c : Case) (tol spent : ℕ) (w : Work) (at : List ℕ) : Type 0 where
  pub kept : AreKept s c w.columns.items
  pub places : length at ≡ 4
  pub basis : IsBasis c w.columns.items at
  pub start : Start
  pub candidates : ℕ
  pub few_candidates : candidates ≤ 32
  pub refuted : AreRefuted s c tol w (beginning c.n candidates) w.rounds.items start
  pub all_columns : start.columns ≡ length w.columns.items
  pub all_letters : start.letters ≡ length w.letters.items
  pub some_pivots : start.pivots ≤ length w.pivots.items
  pub pivots : ArePivots c w.columns.items start.basis (slice_range w.pivots.items start.pivots (length w.pivots.items)) at
  pub units : edges_in w.letters.items + length w.rounds.items + length w.pivots.items ≡ spent

-- so many pivots follow in the list, from a basis to a basis
pub record Pivoted (c : Case) (cols : List Column) (from to : List ℕ) (old new : Spared Pivot) (units : ℕ) : Type 0 where
  pub own : List Pivot
  pub pushed : new.items ≡ old.items ++ own
  pub counted : length own ≡ units
  pub room : new.spare + units ≡ old.spare
  pub pivots : ArePivots c cols from own to

-- before a round
pub record IsBetweenRounds (s : Surface) (c : Case) (tol : ℕ) (units : Units) (w : Work) (at : List ℕ) : Type 0 where
  pub flashing : IsFlashing s c tol units.spent w at
  pub room : HasRoom (units.budget - units.spent) w
  pub counted : IsCounted units.spent w

-- a search ended so; or no unit was left for a pivot, and the plane wasn't searched
abbrev pub IsStopped : Surface → ℕ → Units → Plane → Found → Type 0
IsStopped s tol units plane found =
    IsFound (under s plane.lam (delta_of tol)) units found
    ⊎ ((found ≡ Spent (plain_low s plane.lam (root_region s.count))) × (units.spent ≡ units.budget))

-- after the last one
pub record IsAfterRounds (s : Surface) (c : Case) (tol : ℕ) (units : Units) (w : Work) (at : List ℕ) (rivals : List Rival) (stage : Stage) : Type 0 where
  pub kept : AreKept s c w.columns.items
  pub basis : IsBasis c w.columns.items at
  pub few : length w.columns.items < 2 ^ 32
  pub choice : IsChosen rivals (columns_up c w.columns.items at) (slack_of tol) stage.chosen
  pub work : IsListOfWork s c tol units.spent w at stage.plane stage.chosen.u stage.found
  pub found : IsStopped s tol units stage.plane stage.found
  pub over : (low : ℤ) → low_of stage.found ≡ Some low → IsOver s stage.plane.lam low (root_region s.count)

-- a round of this end leaves the one or the other
abbrev pub IsAfterRound : Surface → Case → ℕ → Units → Work → List ℕ → List Rival → Stage → Found → Type 0
IsAfterRound s c tol units w at rivals stage (AllClear low) = IsAfterRounds s c tol units w at rivals stage
IsAfterRound s c tol units w at rivals stage (Refuted kept) = IsBetweenRounds s c tol units w at
IsAfterRound s c tol units w at rivals stage (Spent low) = IsAfterRounds s c tol units w at rivals stage
IsAfterRound s c tol units w at rivals stage (Grain low cell) = IsAfterRounds s c tol units w at rivals stage
