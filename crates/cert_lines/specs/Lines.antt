-- A line of a certificate's head: a word, on some lines a name, and whole numbers, each behind one space.
use Rattle.std.specs.Prelude.{ℕ, List, [], ◌∷◌, ◌++◌, ◌≡◌, ◌&&◌, ◌==◌, Bool, true, false, length, take, drop, cond, if◌then◌else◌, Option, Some, None, Ok, ℤ, ◌≤ℤ◌, int_le, slice_index, unsigned_abs, ◌<◌, ◌^◌}
use Rattle.std.specs.List.{position_or_len}
use Rattle.std.specs.Result.{result_ok}
use Rattle.std.specs.Fmt.{signed_decimal}
use Rattle.std.specs.Str.{bytes_eq}
use Rattle.dec_text.specs.Decimals.{whole_of}
use Rattle.case_words.specs.Names.{name_of, text_of}
use Rattle.cert_lines.specs.declared.lines.Entry.{Entry}
use Rattle.cert_lines.specs.declared.lines.Range.{Range}

-- what a line says behind its word
pub record Said : Type 0 where
  -- without a byte on the lines that have no name
  pub name : List ℕ
  pub numbers : List ℤ

abbrev pub said_by : Entry → Said
said_by entry = record { name = text_of entry.name; numbers = entry.numbers.items }

-- ---- writing
abbrev pub numbers_text : List ℤ → List ℕ
numbers_text [] = []
numbers_text (z ∷ zs) = 32 ∷ signed_decimal z ++ numbers_text zs

abbrev pub name_part : Bool → List ℕ → List ℕ
name_part named name = cond named (32 ∷ name) []

-- the line, without its newline
abbrev pub line_text : List ℕ → Bool → Said → List ℕ
line_text word named said = word ++ (name_part named said.name ++ numbers_text said.numbers)

-- ---- what fits
-- the number is in the range and can be read
pub record IsIn (r : Range) (z : ℤ) : Type 0 where
  pub low : r.low ≤ℤ z
  pub high : z ≤ℤ r.high
  pub small : unsigned_abs z < 2 ^ 126

abbrev pub AreIn : List Range → List ℤ → Type 0
AreIn [] [] = Unit {0}
AreIn [] (z ∷ zs) = ⊥
AreIn (r ∷ rs) [] = ⊥
AreIn (r ∷ rs) (z ∷ zs) = IsIn r z × AreIn rs zs

abbrev pub IsNamed : Bool → List ℕ → Type 0
IsNamed true name = name_of name ≡ Ok name
IsNamed false name = name ≡ []

pub record Fits (named : Bool) (ranges : List Range) (said : Said) : Type 0 where
  pub name : IsNamed named said.name
  pub numbers : AreIn ranges said.numbers

-- ---- reading
infixl 10 ◌>>=◌
-- the next step, unless there was none
abbrev pub ◌>>=◌ : {A B : Type 0} → Option A → (A → Option B) → Option B
Some a >>= f = f a
None >>= f = None

abbrev pub is_space : ℕ → Bool
is_space b = b == 32

-- how long the field at the front is
abbrev pub field_end : List ℕ → ℕ
field_end text = position_or_len is_space text

-- the field behind the space at the front, and what follows it
unfoldable pub field_at : List ℕ → Option (List ℕ × List ℕ)
field_at text =
    if slice_index text 0 == 32
    then Some (take (field_end (drop 1 text)) (drop 1 text), drop (field_end (drop 1 text)) (drop 1 text))
    else None

abbrev pub is_in : Range → ℤ → Bool
is_in r z = int_le r.low z && int_le z r.high

unfoldable pub number_at : Range → List ℕ → Option (ℤ × List ℕ)
number_at r text = do
  field ← field_at text
  z ← result_ok (whole_of field.0)
  if is_in r z then Some (z, field.1) else None

unfoldable pub numbers_at : List Range → List ℕ → Option (List ℤ × List ℕ)
numbers_at [] text = Some ([], text)
numbers_at (r ∷ rs) text = do
  first ← number_at r text
  others ← numbers_at rs first.1
  Some (first.0 ∷ others.0, others.1)

unfoldable pub name_at : Bool → List ℕ → Option (List ℕ × List ℕ)
name_at false text = Some ([], text)
name_at true text = do
  field ← field_at text
  name ← result_ok (name_of field.0)
  Some (name, field.1)

-- what follows the word
unfoldable pub behind_word : List ℕ → List ℕ → Option (List ℕ)
behind_word word text = if bytes_eq word (take (length word) text) then Some (drop (length word) text) else None

unfoldable pub line_at : List ℕ → Bool → List Range → List ℕ → Option Said
line_at word named ranges text = do
  rest ← behind_word word text
  name ← name_at named rest
  numbers ← numbers_at ranges name.1
  if length numbers.1 == 0 then Some (record { name = name.0; numbers = numbers.0 }) else None
