-- The least of the lows of cells.
use Rattle.std.specs.Prelude.{List, [], ◌∷◌, Option, Some, ℤ}
use Rattle.fibre_bound.specs.declared.cells.Cell.{Cell}
use Rattle.fibre_bound.specs.Walks.{lesser}

unfoldable pub least_of : Option ℤ → List Cell → Option ℤ
least_of least [] = least
least_of least (c ∷ cs) = least_of (Some (lesser least c.low)) cs
