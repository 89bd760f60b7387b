-- An energy surface by what bounds it, and the lows of its cells under a plane.
use Rattle.std.specs.Prelude.{ℕ, List, IsTrue, Option, Some, None, ℤ}
use Rattle.case_types.specs.Arithmetic.Bounds.{Box}
use Rattle.case_types.specs.Grid.Cells.{Region, misses, Mark, Misses, Plain, Sloped, Tree, Leaf, Node, lower_half, upper_half, cell_low, HasLow}

-- how many components, and the bounds of the energy in 2^-40 bit
pub record Surface : Type 0 where
  pub count : ℕ
  -- over a box of compositions and a range of packings the energy is at least this
  pub low : Box → ℕ → ℕ → ℤ
  -- over a box and at a packing it is at most this
  pub up : Box → ℕ → ℤ
  -- over a cell it lies above a plane by at least this, where slopes give such a number
  pub slope : List ℤ → Region → Option ℤ

-- the surface and a plane, above which no point is to lie lower than delta
pub record Under : Type 0 where
  pub surface : Surface
  pub plane : List ℤ
  pub delta : ℤ

abbrev pub under : Surface → List ℤ → ℤ → Under
under s lam delta = record { surface = s; plane = lam; delta = delta }

-- ---- lows of cells
abbrev pub plain_low : Surface → List ℤ → Region → ℤ
plain_low s lam r = cell_low s.count s.low lam r

abbrev pub slope_low : Surface → List ℤ → Region → Option ℤ
slope_low s lam r = s.slope lam r

abbrev pub low_by : Surface → List ℤ → Region → Mark → Option ℤ
low_by s lam r Misses = None
low_by s lam r Plain = Some (plain_low s lam r)
low_by s lam r Sloped = slope_low s lam r

-- the cell misses, or the low that clears it is at least this
abbrev pub IsLeafOver : Surface → List ℤ → ℤ → Mark → Region → Type 0
IsLeafOver s lam low Misses r = IsTrue (misses s.count r)
IsLeafOver s lam low Plain r = HasLow low (low_by s lam r Plain)
IsLeafOver s lam low Sloped r = HasLow low (low_by s lam r Sloped)

-- so is every leaf of the tree
unfoldable pub IsTreeOver : Surface → List ℤ → ℤ → Tree → Region → Type 0
IsTreeOver s lam low (Leaf mark) r = IsLeafOver s lam low mark r
IsTreeOver s lam low (Node edge lower upper) r =
    IsTreeOver s lam low lower (lower_half edge r) × IsTreeOver s lam low upper (upper_half edge r)

-- so is every leaf of some tree of the cell
pub record IsOver (s : Surface) (lam : List ℤ) (low : ℤ) (r : Region) : Type 0 where
  pub tree : Tree
  pub over : IsTreeOver s lam low tree r
