-- The line of letters: where its first fault is, and which trees it writes.
use Rattle.std.specs.Prelude.{ℕ, ◌+◌, ◌≡◌, ◌==◌, ◌&&◌, ◌≤◌, List, [], ◌∷◌, ◌++◌, length, Bool, IsTrue, if◌then◌else◌, Option, Some, None}
use Rattle.case_types.specs.Grid.Cells.{Region, Tree, Leaf, Node, Mark, Step, Ends, Halves, Visit, visits, letters_of, lower_half, upper_half, root_region}
use Rattle.cert_letters.specs.Steps.{IsEdgeOf, can_halve}
use Rattle.cert_letters.specs.Readings.{Reading, fresh, is_whole, visit_of, next}

-- ---- trees
-- every edge that is halved is one of n components with two units or more, and every leaf passes the test
unfoldable pub IsGoodTree : ℕ → (Region → Mark → Bool) → Tree → Region → Type 0
IsGoodTree n good (Leaf mark) r = IsTrue (good r mark)
IsGoodTree n good (Node edge lower upper) r =
    IsEdgeOf n edge × IsTrue (can_halve r edge) × IsGoodTree n good lower (lower_half edge r) × IsGoodTree n good upper (upper_half edge r)

-- the letters of a tree of the whole domain
abbrev pub tree_letters : ℕ → Tree → List ℕ
tree_letters n tree = letters_of (visits tree (root_region n))

-- ---- the line, read from its first byte
pub data LineEnd : Type 0 where
  -- the text ends in the line
  CutAt : LineEnd
  -- the byte at this place, which counts from 1, is refused
  BadAt : ℕ → LineEnd
  -- the leaf of this number doesn't pass the test
  FailsAt : ℕ → LineEnd
  -- the line is whole, and this follows its newline
  Behind : List ℕ → LineEnd

abbrev pub tested : (Region → Mark → Bool) → Region → Step → ℕ → LineEnd → LineEnd
tested good c (Ends mark) leaves rest = if good c mark then rest else FailsAt leaves
tested good c (Halves edge) leaves rest = rest

-- what the byte at a place leads to, where `rest` is what the bytes behind it lead to
abbrev pub judged : (Region → Mark → Bool) → Option Visit → ℕ → ℕ → LineEnd → LineEnd
judged good None leaves at rest = BadAt at
judged good (Some v) leaves at rest = tested good v.region v.step leaves rest

unfoldable pub line_end : (Region → Mark → Bool) → Reading → ℕ → List ℕ → LineEnd
line_end good r at [] = CutAt
line_end good r at (byte ∷ bytes) =
    if is_whole r && byte == 10 then Behind bytes
    else judged good (visit_of r byte) (next r byte).leaves at (line_end good (next r byte) (at + 1) bytes)

-- a line that is read whole writes a tree of as many letters as stated, all of whose halvings can be and whose leaves pass
abbrev pub LinesAreTrees : Type 0
LinesAreTrees =
    (n letters : ℕ) (good : Region → Mark → Bool) (bytes rest : List ℕ) → n ≤ 4 → line_end good (fresh n letters) 1 bytes ≡ Behind rest →
    (t : Tree) × IsGoodTree n good t (root_region n) × (length (tree_letters n t) ≡ letters) × (bytes ≡ tree_letters n t ++ 10 ∷ rest)

-- and every such tree is read
abbrev pub TreesAreLines : Type 0
TreesAreLines =
    (n letters : ℕ) (good : Region → Mark → Bool) (t : Tree) (rest : List ℕ) → n ≤ 4 → IsGoodTree n good t (root_region n) →
    length (tree_letters n t) ≡ letters → line_end good (fresh n letters) 1 (tree_letters n t ++ 10 ∷ rest) ≡ Behind rest

-- and letters write one tree of a cell alone, wherever they end
abbrev pub LettersWriteOne : Type 0
LettersWriteOne =
    (n : ℕ) (good : Region → Mark → Bool) (t u : Tree) (r : Region) (x y : List ℕ) → n ≤ 4 → IsGoodTree n good t r → IsGoodTree n good u r →
    letters_of (visits t r) ++ x ≡ letters_of (visits u r) ++ y → (t ≡ u) × (x ≡ y)
