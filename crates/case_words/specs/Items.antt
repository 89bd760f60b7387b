-- Numbers, and lists with commas, in the word at a place.
use Rattle.std.specs.Prelude.{ℕ, ◌^◌, List, length, Bool, ◌&&◌, ◌==◌, nat_le, if◌then◌else◌, Result, Ok, Err}
use Rattle.std.specs.List.{slice_split, sum}
use Rattle.case_types.specs.declared.cases.Edition.{Edition}
use Rattle.case_types.specs.declared.cases.Edition.TheVariants.{Y1976, Y1978}
use Rattle.dec_text.specs.Decimals.{decimal_of}
use Rattle.dec_text.specs.declared.faults.DecFault.{DecFault}
use Rattle.case_words.specs.Answers.{◌>>=◌, when, each_of}
use Rattle.case_words.specs.Quantities.{places_of, least, greatest}
use Rattle.case_words.specs.Names.{name_of, are_different}
use Rattle.case_words.specs.declared.boundaries.By.{By}
use Rattle.case_words.specs.declared.faults.WordFault.{WordFault}
use Rattle.case_words.specs.declared.faults.WordFault.TheVariants.{Value, Range, Count, Twice}

-- what a text of the word is, or its fault in that word
abbrev pub valued : {A : Type 0} → ℕ → Result A DecFault → Result A WordFault
valued place (Ok a) = Ok a
valued place (Err fault) = Err (Value place fault)

abbrev pub is_within : ℕ → ℕ → ℕ → Bool
is_within low high n = nat_le low n && nat_le n high

-- a number with these places, and then its range
unfoldable pub number_of : ℕ → ℕ → ℕ → ℕ → List ℕ → Result ℕ WordFault
number_of place places low high text = do
  n ← valued place (decimal_of places (10 ^ 15) text)
  when (is_within low high n) n (Range place)

-- a temperature or a pressure, with its places and its range
unfoldable pub quantity_of : ℕ → By → List ℕ → Result ℕ WordFault
quantity_of place by text = number_of place (places_of by) (least by) (greatest by) text

-- a difference of temperatures or of pressures, in 1 to 2^32 - 1 units of the last place
unfoldable pub width_of : ℕ → By → List ℕ → Result ℕ WordFault
width_of place by text = number_of place (places_of by) 1 4294967295 text

-- the edition of a year: 76 or 78
abbrev pub edition_by : ℕ → ℕ → Result Edition WordFault
edition_by place year = if year == 76 then Ok Y1976 else (if year == 78 then Ok Y1978 else Err (Range place))

-- an edition: a number without places, and then its year
unfoldable pub edition_of : ℕ → List ℕ → Result Edition WordFault
edition_of place text = number_of place 0 76 78 text >>= edition_by place

abbrev pub is_comma : ℕ → Bool
is_comma b = b == 44

-- the items between the commas
abbrev pub items_of : List ℕ → List (List ℕ)
items_of text = slice_split is_comma text

-- at most four items, each read in its turn
unfoldable pub up_to_four : {A : Type 0} → ℕ → (List ℕ → Result A WordFault) → List ℕ → Result (List A) WordFault
up_to_four place read text = if nat_le (length (items_of text)) 4 then each_of read (items_of text) else Err (Count place)

-- the feed: at most four parts, and then the range of their total
unfoldable pub parts_of : ℕ → List ℕ → Result (List ℕ) WordFault
parts_of place text = do
  parts ← up_to_four place (number_of place 0 0 1048576) text
  when (is_within 1 1048576 (sum parts)) parts (Range place)

-- at most four names, of which none stands twice
unfoldable pub names_of : ℕ → List ℕ → Result (List (List ℕ)) WordFault
names_of place text = do
  names ← up_to_four place (λ item. valued place (name_of item)) text
  when (are_different names) names (Twice place)
