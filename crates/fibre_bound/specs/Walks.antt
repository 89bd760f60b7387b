-- The walk over the packing fractions of the feed in one phase, step by step.
use Rattle.std.specs.Prelude.{ℕ, ◌≡◌, ◌⊎◌, ◌+◌, ◌-◌, ◌*◌, ◌/◌, ◌^◌, ◌<◌, ◌≤◌, List, [], ◌∷◌, Option, Some, None, ℤ, pos, ◌-ℤ◌, ◌≤ℤ◌, ◌<ℤ◌}
use Rattle.std.specs.Int.{int_min}
use Rattle.case_types.specs.declared.cases.Case.{Case}
use Rattle.case_types.specs.Arithmetic.Bounds.{Box, one, box_of_parts}
use Rattle.energy_surface.specs.Surfaces.{Surface}
use Rattle.split_energies.specs.declared.scans.Scanned.{Scanned}
use Rattle.split_energies.specs.Scanned.{state_at, lowest_of}
use Rattle.fibre_bound.specs.declared.fibres.Fibre.{Fibre}
use Rattle.fibre_bound.specs.declared.fibres.FibreEnd.{FibreEnd}
use Rattle.fibre_bound.specs.declared.fibres.FibreEnd.TheVariants.{Clear, Spent, Grain}

-- bounds of the feed's energy by packing fractions; how near to the least upper one a cell is cleared; and the first state
pub record Question : Type 0 where
  pub low : ℕ → ℕ → ℤ
  pub up : ℕ → ℤ
  pub slack : ℤ
  pub first : Scanned

abbrev pub question_over : Surface → Box → ℤ → Scanned → Question
question_over s x slack first = record { low = s.low x; up = s.up x; slack = slack; first = first }

-- the first state is the lowest of those at some packing fractions and at half the densest packing
abbrev pub question_of : Surface → Case → List ℕ → ℕ → Question
question_of s c packings tol =
    let x = box_of_parts c.n c.z in
    question_over s x (pos (tol * 2 ^ 14)) (lowest_of s x packings (state_at s x (2 ^ 39)))

-- ---- cells
-- the packing fractions from one to another, in 2^-40
pub record Span : Type 0 where
  pub from : ℕ
  pub to : ℕ

abbrev pub span : ℕ → ℕ → Span
span from to = record { from = from; to = to }

abbrev pub middle : Span → ℕ
middle c = (c.from + c.to) / 2

abbrev pub low_of : Question → Span → ℤ
low_of q c = q.low c.from c.to

-- ---- where a walk stands
-- the state of least upper energy that it met, the least low of the cells that it cleared, the cells left, and the units spent
pub record Trail : Type 0 where
  pub packing : ℕ
  pub up : ℤ
  pub least : Option ℤ
  pub cells : List Span
  pub spent : ℕ

abbrev pub begun : Question → Trail
begun q = record { packing = q.first.packing; up = q.first.up; least = None; cells = span 0 one ∷ []; spent = 0 }

-- no energy in the cell lies below the least upper one by more than the slack
abbrev pub IsCleared : Question → Trail → Span → Type 0
IsCleared q t c = (t.up -ℤ q.slack) ≤ℤ low_of q c

abbrev pub IsOpen : Question → Trail → Span → Type 0
IsOpen q t c = low_of q c <ℤ (t.up -ℤ q.slack)

-- there is a state in the middle, and its upper energy is lower
abbrev pub IsLower : Question → Trail → Span → Type 0
IsLower q t c = (1 ≤ middle c) × (q.up (middle c) <ℤ t.up)

abbrev pub IsNoLower : Question → Trail → Span → Type 0
IsNoLower q t c = (middle c ≡ 0) ⊎ (t.up ≤ℤ q.up (middle c))

-- the lesser of a least low, if there is one, and another
abbrev pub lesser : Option ℤ → ℤ → ℤ
lesser None z = z
lesser (Some y) z = int_min y z

-- ---- its steps, by the cell on top and the cells under it
abbrev pub cleared : Question → Trail → Span → List Span → Trail
cleared q t c rest = record t { least = Some (lesser t.least (low_of q c)); cells = rest }

abbrev pub lowered : Question → Trail → Span → Trail
lowered q t c = record t { packing = middle c; up = q.up (middle c); spent = t.spent + 1 }

abbrev pub halved : Trail → Span → List Span → Trail
halved t c rest = record t { cells = span c.from (middle c) ∷ span (middle c) c.to ∷ rest; spent = t.spent + 1 }

-- a walk with so many units comes to where it stands
pub data Reaches (q : Question) (units : ℕ) : Trail → Type 0 where
  Begins : Reaches q units (begun q)
  Clears : (t : Trail) (c : Span) (rest : List Span) → Reaches q units t → t.cells ≡ c ∷ rest → IsCleared q t c → Reaches q units (cleared q t c rest)
  Lowers : (t : Trail) (c : Span) (rest : List Span) → Reaches q units t → t.cells ≡ c ∷ rest → IsOpen q t c → IsLower q t c → t.spent < units →
      Reaches q units (lowered q t c)
  Halves : (t : Trail) (c : Span) (rest : List Span) → Reaches q units t → t.cells ≡ c ∷ rest → IsOpen q t c → IsNoLower q t c → 2 ≤ c.to - c.from →
      t.spent < units → Reaches q units (halved t c rest)

-- ---- its end
-- the least of a low, if there is one, and those of the cells left
unfoldable pub least_over : Question → Option ℤ → List Span → Option ℤ
least_over q least [] = least
least_over q least (c ∷ rest) = least_over q (Some (lesser least (low_of q c))) rest

-- every cell is cleared; or the one on top wants a unit and none is left; or it can't give a lower state nor be halved
abbrev pub EndsSo : Question → ℕ → Trail → FibreEnd → Type 0
EndsSo q units t Clear = t.cells ≡ []
EndsSo q units t Spent =
    (c : Span) × (rest : List Span) × (t.cells ≡ c ∷ rest) × IsOpen q t c × (IsLower q t c ⊎ (2 ≤ c.to - c.from)) × (t.spent ≡ units)
EndsSo q units t (Grain p) =
    (c : Span) × (rest : List Span) × (t.cells ≡ c ∷ rest) × IsOpen q t c × IsNoLower q t c × (c.to - c.from ≡ 1) × (p ≡ c.from)

-- the least low of all cells, and of the last state where every cell is cleared
abbrev pub LowIs : Question → Trail → FibreEnd → ℤ → Type 0
LowIs q t Clear low = low ≡ lesser t.least t.up
LowIs q t Spent low = least_over q t.least t.cells ≡ Some low
LowIs q t (Grain p) low = least_over q t.least t.cells ≡ Some low

-- what a walk with so many units comes to, after so many were spent
pub record IsFibre (q : Question) (units spent : ℕ) (f : Fibre) : Type 0 where
  pub trail : Trail
  pub reaches : Reaches q units trail
  pub spent_is : spent ≡ trail.spent
  pub packing : f.packing ≡ trail.packing
  pub up : f.up ≡ trail.up
  pub ends : EndsSo q units trail f.end
  pub low : LowIs q trail f.end f.low
