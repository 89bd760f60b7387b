-- A head, read line by line.
use Rattle.std.specs.Prelude.{ℕ, ◌+◌, ◌==◌, ◌&&◌, nat_le, List, [], ◌∷◌, ◌++◌, length, Bool, true, not, if◌then◌else◌, Option, Some, None, ℤ, pos, int_le, int_lt, unsigned_abs, slice_index_or, IsSome, ◌≡◌}
use Rattle.std.specs.List.{list_any}
use Rattle.std.specs.Str.{bytes_eq}
use Rattle.cert_lines.specs.Lines.{Said, ◌>>=◌, line_at}
use Rattle.cert_lines.specs.Places.{place_at}
use Rattle.cert_lines.specs.Forms.{word_of, is_named, ranges_of}
use Rattle.cert_lines.specs.declared.places.Place.{Place}
use Rattle.cert_lines.specs.declared.places.Place.TheVariants.{Version, Count, Edition, Component, RootTwo, LogE, TemperatureRoot, PressureRoot, Split, Phase, Letters}
use Rattle.cert_lines.specs.declared.places.Shape.{Shape}
use Rattle.cert_lines.specs.declared.faults.CertFault.{CertFault}
use Rattle.cert_lines.specs.declared.faults.CertFault.TheVariants as fault
use Rattle.cert_lines.specs.declared.line_reader.LineStep.{LineStep}
use Rattle.cert_lines.specs.declared.line_reader.LineStep.TheVariants as step

-- the lines that were read
pub record Draft : Type 0 where
  pub shape : Shape
  -- the parts of the feed so far
  pub fed : ℕ
  pub said : List Said

abbrev pub blank : Draft
blank = record { shape = record { version = 0; n = 0; phases = 0; letters = 0 }; fed = 0; said = [] }

-- ---- numbers of a line
abbrev pub number_in : Said → ℕ → ℤ
number_in s i = slice_index_or s.numbers i (pos 0)

-- a number up to a limit, else 0
abbrev pub up_to : ℕ → ℤ → ℕ
up_to limit z = if int_le (pos 0) z && int_le z (pos limit) then unsigned_abs z else 0

-- ---- what a line adds
abbrev pub reshaped : Shape → Place → Said → Shape
reshaped shape Version s = record shape { version = up_to 4 (number_in s 0) }
reshaped shape Count s = record shape { n = up_to 4 (number_in s 0) }
reshaped shape Split s = record shape { phases = up_to 4 (number_in s 0) }
reshaped shape Letters s = record shape { letters = up_to 60000000 (number_in s 0) }
reshaped shape other s = shape

-- the part of the feed that a line has
abbrev pub part_in : Place → Said → ℕ
part_in (Component i) s = up_to 1048576 (number_in s 3)
part_in other s = 0

abbrev pub put : Draft → Place → Said → Draft
put d place s = record { shape = reshaped d.shape place s; fed = d.fed + part_in place s; said = d.said ++ s ∷ [] }

-- ---- what a line is tested for beside its form
-- one of four parts isn't 0
abbrev pub has_part : Said → Bool
has_part s =
    let is_some : ℕ → Bool = λ i. int_lt (pos 0) (number_in s i) in
    if is_some 1 then true else (if is_some 2 then true else (if is_some 3 then true else is_some 4))

-- no line before has the name, and the feed has room for the part
abbrev pub is_new : Draft → Said → Bool
is_new d s =
    not (list_any (λ (e : Said). bytes_eq e.name s.name) d.said) && nat_le (d.fed + up_to 1048576 (number_in s 3)) 1048576

-- the edition is one of two, no name stands twice, the feed stays in its range, ends are in order, a phase isn't empty
abbrev pub suits : Draft → Place → Said → Bool
suits d Edition s = not (up_to 78 (number_in s 0) == 77)
suits d (Component i) s = is_new d s
suits d RootTwo s = int_le (number_in s 0) (number_in s 1)
suits d LogE s = int_le (number_in s 0) (number_in s 1)
suits d (TemperatureRoot i) s = int_le (number_in s 1) (number_in s 2)
suits d (PressureRoot i j) s = int_le (number_in s 2) (number_in s 3)
suits d (Phase k) s = has_part s
suits d other s = true

-- ---- one line more
-- the line that is wanted next: none where the head is whole
abbrev pub next_place : Draft → Option Place
next_place d = place_at d.shape (length d.said)

-- what a line at a place says, if it is one
abbrev pub said_at : Draft → Place → List ℕ → Option Said
said_at d place line = line_at (word_of place) (is_named place) (ranges_of d.shape.n place) line

abbrev pub suiting : Draft → Place → Said → Option Draft
suiting d place s = if suits d place s then Some (put d place s) else None

-- the head with this line, if it can stand there
unfoldable pub with_line : Draft → List ℕ → Option Draft
with_line d line = do
  place ← next_place d
  s ← said_at d place line
  suiting d place s

-- ---- what a line leads to
-- the fault of the line that is wanted next
abbrev pub fault_of : Draft → CertFault
fault_of d = if length d.said == 0 then fault.Head else fault.Line (length d.said + 1)

abbrev pub Steps : Draft → List ℕ → Draft → LineStep → Type 0
Steps d line after step.More = (with_line d line ≡ Some after) × IsSome (next_place after)
Steps d line after step.Done = (with_line d line ≡ Some after) × (next_place after ≡ None)
Steps d line after (step.Bad f) = (with_line d line ≡ None) × (f ≡ fault_of d) × (after ≡ d)

-- ---- what a head says of the tree
-- the number of components, or 1 before its line
abbrev pub count_of : Draft → ℕ
count_of d = if d.shape.n == 0 then 1 else d.shape.n

-- the stated number of letters, or 1 before its line
abbrev pub letters_of : Draft → ℕ
letters_of d = if d.shape.letters == 0 then 1 else d.shape.letters
