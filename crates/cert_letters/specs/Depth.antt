-- How deep the cells without a letter lie.
use Rattle.std.specs.Prelude.{◌+◌, ◌≤◌, List, [], ◌∷◌, length}
use Rattle.case_types.specs.Grid.Cells.{Region}
use Rattle.density_boxes.specs.Halvings.{halvings_left}

-- a cell with k cells below it can be halved at most 100 - k times
unfoldable pub IsDeep : List Region → Type 0
IsDeep [] = Unit {0}
IsDeep (r ∷ below) = (halvings_left r + length below ≤ 100) × IsDeep below
