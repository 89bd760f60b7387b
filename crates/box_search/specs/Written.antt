-- What a search writes.
use Rattle.std.specs.Prelude.{ℕ, ◌≡◌, ◌≤◌, ◌+◌, ◌*◌, ◌⊎◌, List, ◌++◌, map, length, ℤ, ◌≤ℤ◌}
use Rattle.case_types.specs.Grid.Cells.{Region, Visit, HasVisit, letters_of}
use Rattle.case_types.specs.Grid.Visits.{EachVisit, edges_in}
use Rattle.energy_surface.specs.Searches.{IsStepOver, IsStepAt, IsSearched, left_visit}
use Rattle.energy_surface.specs.Surfaces.{Surface, Under}
use Rattle.energy_surface.specs.declared.found.Found.{Found}
use Rattle.box_search.specs.Found.{units_of}
use Rattle.case_types.specs.Spared.{Spared}

-- what was there stays, and at most two letters for each unit and one more follow
pub record Writes (old new : Spared ℕ) (units : ℕ) : Type 0 where
  pub own : List ℕ
  pub written : new.items ≡ old.items ++ own
  pub short : length own ≤ 2 * units + 1
  pub room : new.spare + length own ≡ old.spare

-- what was there stays, and so many letters follow
pub record WritesSome (old new : Spared ℕ) (count : ℕ) : Type 0 where
  pub own : List ℕ
  pub written : new.items ≡ old.items ++ own
  pub counted : length own ≡ count
  pub room : new.spare + length own ≡ old.spare

-- the least of a number and the lows of some leaves
pub record IsLeastFrom (s : Surface) (lam : List ℤ) (low least : ℤ) (vs : List Visit) : Type 0 where
  pub lower : least ≤ℤ low
  pub over : EachVisit (λ v. IsStepOver s lam least v.region v.step) vs
  pub reached : (least ≡ low) ⊎ HasVisit (λ v. IsStepAt s lam least v.region v.step) vs

-- the leaf letters of the cells that are left follow, whose lows lower a number
pub record Closes (s : Surface) (lam : List ℤ) (low : ℤ) (left : List Region) (old new : List ℕ) (least : ℤ) : Type 0 where
  pub written : new ≡ old ++ letters_of (map (left_visit s lam) left)
  pub lows : IsLeastFrom s lam low least (map (left_visit s lam) left)

-- the letters of a search follow, which cost these units with its refutation
pub record Searches (u : Under) (old new : List ℕ) (units : ℕ) (found : Found) : Type 0 where
  pub own : List ℕ
  pub written : new ≡ old ++ own
  pub searched : IsSearched u found own
  pub counted : units ≡ edges_in own + units_of found
