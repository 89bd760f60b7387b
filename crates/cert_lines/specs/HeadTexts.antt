-- The texts of heads: what they say, and the head that a text begins with.
use Rattle.std.specs.Prelude.{ℕ, ◌==◌, List, [], ◌∷◌, ◌++◌, true, if◌then◌else◌, Option, Some, None, ◌≡◌}
use Rattle.std.specs.List.{position_or_len}
use Rattle.cert_lines.specs.Lines.{Said, ◌>>=◌, line_text, Fits}
use Rattle.cert_lines.specs.Forms.{word_of, is_named, ranges_of}
use Rattle.cert_lines.specs.declared.places.Place.{Place}
use Rattle.cert_lines.specs.declared.faults.CertFault.{CertFault}
use Rattle.cert_lines.specs.Heads.{Draft, put, suits, next_place, with_line, fault_of}

-- ---- texts
-- each line with its newline
unfoldable pub lines_text : List (List ℕ) → List ℕ
lines_text [] = []
lines_text (line ∷ lines) = line ++ 10 ∷ lines_text lines

-- the head after these lines, if all of them can stand
unfoldable pub with_lines : Draft → List (List ℕ) → Option Draft
with_lines d [] = Some d
with_lines d (line ∷ lines) = with_line d line >>= λ after. with_lines after lines

-- ---- heads and their lines
-- what a line says fits its place
pub record CanSay (d : Draft) (place : Place) (s : Said) : Type 0 where
  pub next : next_place d ≡ Some place
  pub fits : Fits (is_named place) (ranges_of d.shape.n place) s
  pub suits : suits d place s ≡ true

-- the lines that say this, from a draft on
unfoldable pub Says : Draft → List Said → List (List ℕ) → Draft → Type 0
Says d [] lines after = (lines ≡ []) × (after ≡ d)
Says d (s ∷ said) lines after =
    (place : Place) × (rest : List (List ℕ)) × CanSay d place s × (lines ≡ line_text (word_of place) (is_named place) s ∷ rest) × Says (put d place s) said rest after

-- ---- a head at the front of a text
pub data HeadEnd : Type 0 where
  -- the text ends before the head does
  CutOff : HeadEnd
  Wrong : CertFault → HeadEnd
  -- the head, and what follows it
  Whole : Draft → List ℕ → HeadEnd

-- where the head goes on, and where it is whole
abbrev pub after_next : Draft → Option Place → HeadEnd → List ℕ → HeadEnd
after_next d (Some at) further rest = further
after_next d None further rest = Whole d rest

-- behind a line: its fault where it can't stand
abbrev pub after_line : Draft → Option Draft → (Draft → HeadEnd) → List ℕ → HeadEnd
after_line d None further rest = Wrong (fault_of d)
after_line d (Some x) further rest = after_next x (next_place x) (further x) rest

-- the head of which these bytes follow, where the line that is wanted begins with this; a line is judged at its newline
unfoldable pub head_end : Draft → List ℕ → List ℕ → HeadEnd
head_end d line [] = CutOff
head_end d line (b ∷ bytes) =
    if b == 10 then after_line d (with_line d line) (λ x. head_end x [] bytes) bytes
    else head_end d (line ++ b ∷ []) bytes

-- how long the line at the front is
abbrev pub line_length : List ℕ → ℕ
line_length text = position_or_len (λ b. b == 10) text
