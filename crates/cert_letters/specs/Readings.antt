-- A tree of halvings that is read from its letters, one byte at a time.
use Rattle.std.specs.Prelude.{ℕ, ◌+◌, ◌-◌, ◌≡◌, ◌==◌, ◌||◌, List, [], ◌∷◌, Bool, true, false, if◌then◌else◌, Option, Some, None}
use Rattle.case_types.specs.Grid.Cells.{Region, region_of, root_region, lower_half, upper_half, Mark, Step, Ends, Halves, Visit}
use Rattle.cert_letters.specs.Steps.{step_of, can_halve, mark_of}
use Rattle.cert_letters.specs.declared.reader.TreeStep.{TreeStep}
use Rattle.cert_letters.specs.declared.reader.TreeStep.TheVariants as step

-- how far a tree was read
pub record Reading : Type 0 where
  -- the number of components
  pub count : ℕ
  -- the cells without a letter, the next one first
  pub cells : List Region
  -- how many letters are left by the stated number
  pub left : ℕ
  -- how many leaves there were
  pub leaves : ℕ
  -- a byte was refused
  pub failed : Bool

-- before the first letter
abbrev pub fresh : ℕ → ℕ → Reading
fresh n letters = record { count = n; cells = root_region n ∷ []; left = letters; leaves = 0; failed = false }

abbrev pub none_left : List Region → ℕ → Bool
none_left [] left = left == 0
none_left (r ∷ below) left = false

-- every cell has its letter, and the stated number is used up
abbrev pub is_whole : Reading → Bool
is_whole r = none_left r.cells r.left

-- ---- the next byte
-- the step on a cell: an edge of one unit can't be halved
abbrev pub visit_at : Region → Option Step → Option Visit
visit_at c None = None
visit_at c (Some (Ends mark)) = Some (record { region = c; step = Ends mark })
visit_at c (Some (Halves edge)) = if can_halve c edge then Some (record { region = c; step = Halves edge }) else None

abbrev pub visit_of_first : ℕ → ℕ → List Region → Option Visit
visit_of_first n byte [] = None
visit_of_first n byte (c ∷ below) = visit_at c (step_of n byte)

-- the step that the byte tells of the next cell. The byte is refused, which is none, where one was refused before, no letter or
-- no cell is left, it is the letter of no step, or the edge can't be halved
unfoldable pub visit_of : Reading → ℕ → Option Visit
visit_of r byte = if r.failed || r.left == 0 then None else visit_of_first r.count byte r.cells

abbrev pub behind_first : List Region → List Region
behind_first [] = []
behind_first (c ∷ below) = below

-- a leaf is done with, and the halves of any other cell come next
abbrev pub by_step : Reading → Region → Step → Reading
by_step r c (Ends mark) = record r { cells = behind_first r.cells; left = r.left - 1; leaves = r.leaves + 1 }
by_step r c (Halves edge) = record r { cells = lower_half edge c ∷ upper_half edge c ∷ behind_first r.cells; left = r.left - 1 }

-- after a byte that is refused nothing else changes
abbrev pub by_visit : Reading → Option Visit → Reading
by_visit r None = record r { failed = true }
by_visit r (Some v) = by_step r v.region v.step

-- after the next byte
unfoldable pub next : Reading → ℕ → Reading
next r byte = by_visit r (visit_of r byte)

-- each byte that isn't refused is one of the stated number of letters
abbrev pub LettersCount : Type 0
LettersCount = (r : Reading) (byte : ℕ) (v : Visit) → visit_of r byte ≡ Some v → (next r byte).left + 1 ≡ r.left

-- ---- what is told of it
pub data Told : Type 0 where
  -- a cell was halved
  Within : Told
  -- a leaf: its cell, its mark, its number among all leaves from 1, and whether the tree is whole with it
  LeafAt : Region → Mark → ℕ → Bool → Told
  Refused : Told

abbrev pub told_step : Region → Step → Reading → Told
told_step c (Ends mark) after = LeafAt c mark after.leaves (is_whole after)
told_step c (Halves edge) after = Within

abbrev pub told_visit : Option Visit → Reading → Told
told_visit None after = Refused
told_visit (Some v) after = told_step v.region v.step after

unfoldable pub told : Reading → ℕ → Told
told r byte = told_visit (visit_of r byte) (next r byte)

-- the answer of the code
abbrev pub answer_of : TreeStep → Told
answer_of step.Inner = Within
answer_of (step.Leaf cell how index last) = LeafAt (region_of cell) (mark_of how) index last
answer_of step.Bad = Refused
