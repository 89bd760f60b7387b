-- What one record of the table says, or its first fault.
use Rattle.std.specs.Prelude.{ℕ, ◌-◌, ◌^◌, List, [], ◌∷◌, length, slice_index_or, Bool, ◌&&◌, ◌==◌, if◌then◌else◌, ℤ, pos, neg_ℤ, int_le, Result, Ok, Err, codes, ⊤}
use Rattle.std.specs.List.{list_all}
use Rattle.std.specs.Str.{bytes_eq, is_utf8}
use Rattle.dec_text.specs.Decimals.{decimal_of, signed_decimal_of}
use Rattle.dec_text.specs.declared.faults.DecFault.{DecFault}
use Rattle.dec_text.specs.declared.faults.DecFault.TheVariants.{Digit}
use Rattle.case_types.specs.Ranges.{is_critical_temperature, is_critical_pressure, is_acentric_factor, is_interaction}
use Rattle.case_words.specs.Answers.{◌>>=◌, when}
use Rattle.case_words.specs.Names.{name_of}
use Rattle.component_table.specs.declared.faults.TableFault.{TableFault}
use Rattle.component_table.specs.declared.faults.TableFault.TheVariants.{Fields, Utf8, Kind, Number, Range}

-- a component of the table
pub record PlainRow : Type 0 where
  pub name : List ℕ
  pub tc : ℕ
  pub pc : ℕ
  pub w : ℤ

-- what a record says: a component, the interaction of two names, or the heat capacity of a name
pub data PlainRecord : Type 0 where
  PlainComp : PlainRow → PlainRecord
  PlainPair : List ℕ → List ℕ → ℤ → PlainRecord
  PlainCp : List ℕ → List ℤ → PlainRecord

-- the field at a place from 1
abbrev pub field : ℕ → List (List ℕ) → List ℕ
field f fields = slice_index_or fields (f - 1) []

-- what the field f of the record n is, or its fault there
abbrev pub valued : {A : Type 0} → ℕ → ℕ → Result A DecFault → Result A TableFault
valued n f (Ok a) = Ok a
valued n f (Err fault) = Err (Number n f fault)

-- what the field is, and then its range
abbrev pub ranged : {A : Type 0} → ℕ → ℕ → (A → Bool) → Result A DecFault → Result A TableFault
ranged n f is_in (Ok a) = when (is_in a) a (Range n f)
ranged n f is_in (Err fault) = Err (Number n f fault)

-- a field that must be empty
abbrev pub nothing_of : List ℕ → Result ⊤ DecFault
nothing_of text = when (length text == 0) tt Digit

-- a coefficient of a heat capacity in 1e-3 of its unit
abbrev pub is_coefficient : ℤ → Bool
is_coefficient c = int_le (neg_ℤ (pos 10000000)) c && int_le c (pos 10000000)

-- a component: its name, critical temperature, critical pressure and acentric factor
unfoldable pub comp_of : ℕ → List (List ℕ) → Result PlainRecord TableFault
comp_of n fields = do
  name ← valued n 2 (name_of (field 2 fields))
  tc ← ranged n 3 is_critical_temperature (decimal_of 3 (10 ^ 15) (field 3 fields))
  pc ← ranged n 4 is_critical_pressure (decimal_of 0 (10 ^ 15) (field 4 fields))
  w ← ranged n 5 is_acentric_factor (signed_decimal_of 4 (10 ^ 15) (field 5 fields))
  none ← valued n 6 (nothing_of (field 6 fields))
  Ok (PlainComp (record { name = name; tc = tc; pc = pc; w = w }))

-- the interaction of two components: their names and its number
unfoldable pub pair_of : ℕ → List (List ℕ) → Result PlainRecord TableFault
pair_of n fields = do
  first ← valued n 2 (name_of (field 2 fields))
  second ← valued n 3 (name_of (field 3 fields))
  k ← ranged n 4 is_interaction (signed_decimal_of 4 (10 ^ 15) (field 4 fields))
  none ← valued n 5 (nothing_of (field 5 fields))
  none' ← valued n 6 (nothing_of (field 6 fields))
  Ok (PlainPair first second k)

-- the heat capacity of a component: its name and the four coefficients
unfoldable pub cp_of : ℕ → List (List ℕ) → Result PlainRecord TableFault
cp_of n fields = do
  name ← valued n 2 (name_of (field 2 fields))
  a ← ranged n 3 is_coefficient (signed_decimal_of 3 (10 ^ 15) (field 3 fields))
  b ← ranged n 4 is_coefficient (signed_decimal_of 3 (10 ^ 15) (field 4 fields))
  c ← ranged n 5 is_coefficient (signed_decimal_of 3 (10 ^ 15) (field 5 fields))
  d ← ranged n 6 is_coefficient (signed_decimal_of 3 (10 ^ 15) (field 6 fields))
  Ok (PlainCp name (a ∷ b ∷ c ∷ d ∷ []))

-- the record n by its first field
abbrev pub typed_of : ℕ → List (List ℕ) → Result PlainRecord TableFault
typed_of n fields =
    if bytes_eq (field 1 fields) (codes "comp") then comp_of n fields
    else (if bytes_eq (field 1 fields) (codes "k") then pair_of n fields
    else (if bytes_eq (field 1 fields) (codes "cp") then cp_of n fields else Err (Kind n)))

-- the record n: six fields of text, of one of three kinds
unfoldable pub record_of : ℕ → List (List ℕ) → Result PlainRecord TableFault
record_of n fields =
    if length fields == 6 then (if list_all is_utf8 fields then typed_of n fields else Err (Utf8 n))
    else Err (Fields n)
