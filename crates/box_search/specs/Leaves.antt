-- Leaves as a search makes them: a letter, and the low by that letter.
use Rattle.std.specs.Prelude.{◌≡◌, List, Some, ℤ}
use Rattle.case_types.specs.Grid.Cells.{Region, Mark, Ends, letter_of}
use Rattle.energy_surface.specs.Searches.{HasStepCause, left_mark}
use Rattle.energy_surface.specs.Surfaces.{Surface, Under, low_by}
use Rattle.box_search.specs.declared.leaves.Leaf.{Leaf}

-- the leaf of a cell by a mark
pub record IsLeafBy (s : Surface) (lam : List ℤ) (r : Region) (mark : Mark) (leaf : Leaf) : Type 0 where
  pub letter : leaf.letter ≡ letter_of (Ends mark)
  pub low : low_by s lam r mark ≡ Some leaf.low

-- it has its cause: the low by it clears the cell
pub record Clears (u : Under) (r : Region) (leaf : Leaf) : Type 0 where
  pub mark : Mark
  pub cause : HasStepCause u r (Ends mark)
  pub by : IsLeafBy u.surface u.plane r mark leaf

-- the leaf of a cell that is left when the search stops
abbrev pub IsLeft : Surface → List ℤ → Region → Leaf → Type 0
IsLeft s lam r leaf = IsLeafBy s lam r (left_mark s lam r) leaf
