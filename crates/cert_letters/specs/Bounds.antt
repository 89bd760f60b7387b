-- What the leaves of a certificate are tested for, and what they bound together.
use Rattle.std.specs.Prelude.{ℕ, ◌≤◌, ◌≡◌, ◌&&◌, not, Bool, false, List, Option, Some, None, ℤ, int_le}
use Rattle.case_types.specs.Grid.Cells.{Region, Mark, Misses, Plain, Sloped, misses, root_region}
use Rattle.energy_surface.specs.Surfaces.{Surface, low_by, IsOver}
use Rattle.cert_letters.specs.Readings.{fresh}
use Rattle.cert_letters.specs.Lines.{line_end, Behind}

-- the low is there and is at least this
abbrev pub is_low_above : ℤ → Option ℤ → Bool
is_low_above low None = false
is_low_above low (Some l) = int_le low l

-- the cell misses, or it doesn't and its low by its letter is at least the stated one
unfoldable pub leaf_test : Surface → List ℤ → ℤ → Region → Mark → Bool
leaf_test s lam low r Misses = misses s.count r
leaf_test s lam low r Plain = not (misses s.count r) && is_low_above low (low_by s lam r Plain)
leaf_test s lam low r Sloped = not (misses s.count r) && is_low_above low (low_by s lam r Sloped)

-- a line of letters that is read whole with this test bounds a surface from below over the whole domain
abbrev pub LinesBound : Type 0
LinesBound =
    (s : Surface) (lam : List ℤ) (low : ℤ) (letters : ℕ) (bytes rest : List ℕ) → s.count ≤ 4 →
    line_end (leaf_test s lam low) (fresh s.count letters) 1 bytes ≡ Behind rest → IsOver s lam low (root_region s.count)
