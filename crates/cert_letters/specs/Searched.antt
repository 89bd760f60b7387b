-- The letters of a search that ends with a low.
use Rattle.std.specs.Prelude.{ℕ, ◌≤◌, ◌≡◌, List, Some, ℤ}
use Rattle.case_types.specs.Grid.Cells.{Tree, root_region}
use Rattle.energy_surface.specs.declared.found.Found.{Found}
use Rattle.energy_surface.specs.Searches.{IsSearched, low_of}
use Rattle.energy_surface.specs.Surfaces.{Surface, under}
use Rattle.cert_letters.specs.Bounds.{leaf_test}
use Rattle.cert_letters.specs.Lines.{IsGoodTree, tree_letters}

-- the letters are those of a tree of the whole domain whose halvings can be and whose leaves have lows of at least this
pub record AreOfTree (s : Surface) (lam : List ℤ) (low : ℤ) (letters : List ℕ) : Type 0 where
  pub tree : Tree
  pub good : IsGoodTree s.count (leaf_test s lam low) tree (root_region s.count)
  pub written : letters ≡ tree_letters s.count tree

-- those of a search are, with the least low of its leaves
abbrev pub SearchesWriteTrees : Type 0
SearchesWriteTrees =
    (s : Surface) (lam : List ℤ) (delta low : ℤ) (found : Found) (letters : List ℕ) → s.count ≤ 4 → low_of found ≡ Some low →
    IsSearched (under s lam delta) found letters → AreOfTree s lam low letters
