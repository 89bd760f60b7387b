-- What the records of a table hold, or their first fault.
use Rattle.std.specs.Prelude.{ℕ, ◌+◌, ◌≡◌, List, [], ◌∷◌, ◌++◌, length, Bool, ◌&&◌, ◌||◌, ◌==◌, nat_le, nat_lt, if◌then◌else◌, ℤ, Result, Ok, Err, ⊤}
use Rattle.std.specs.List.{position_or_len, list_any}
use Rattle.std.specs.Str.{bytes_eq}
use Rattle.case_words.specs.Answers.{◌>>=◌, when}
use Rattle.component_table.specs.declared.faults.TableFault.{TableFault}
use Rattle.component_table.specs.declared.faults.TableFault.TheVariants.{Fields, UnknownName, Twice, TooMany}
use Rattle.component_table.specs.declared.faults.TableError.{TableError}
use Rattle.component_table.specs.declared.faults.TableError.TheVariants.{Fault, Memory}
use Rattle.component_table.specs.declared.rows.PairRow.{PairRow}
use Rattle.component_table.specs.declared.rows.CpRow.{CpRow}
use Rattle.component_table.specs.Records.{PlainRow, PlainRecord, PlainComp, PlainPair, PlainCp, record_of}

-- what a table holds, each list in the order of the records
pub record Held : Type 0 where
  pub comps : List PlainRow
  pub pairs : List PairRow
  pub cps : List CpRow

-- nothing yet
abbrev pub nothing : Held
nothing = record { comps = []; pairs = []; cps = [] }

-- the component has the name
abbrev pub has_name : List ℕ → PlainRow → Bool
has_name name row = bytes_eq row.name name

-- the index of the component with the name, or their number where there is none
abbrev pub index_in : List PlainRow → List ℕ → ℕ
index_in comps name = position_or_len (has_name name) comps

-- the place of an earlier component, from 1, for the record n
abbrev pub known : ℕ → List PlainRow → List ℕ → Result ℕ TableFault
known n comps name = when (nat_lt (index_in comps name) (length comps)) (index_in comps name + 1) (UnknownName n)

-- the interaction is that of these two, in either order
abbrev pub is_pair : ℕ → ℕ → PairRow → Bool
is_pair i j p = p.i == i && p.j == j || p.i == j && p.j == i

-- the heat capacity is that of this component
abbrev pub is_of : ℕ → CpRow → Bool
is_of i c = c.i == i

-- with the component of the record n: no component has its name already, and there are at most 256
unfoldable pub with_comp : ℕ → Held → PlainRow → Result Held TableFault
with_comp n t row =
    if nat_lt (index_in t.comps row.name) (length t.comps) then Err (Twice n)
    else (if nat_le 256 (length t.comps) then Err (TooMany n) else Ok (record t { comps = t.comps ++ row ∷ [] }))

-- with the interaction of two places, which differ and have none yet
abbrev pub with_places : ℕ → Held → ℕ → ℕ → ℤ → Result Held TableFault
with_places n t i j k =
    if i == j || list_any (is_pair i j) t.pairs then Err (Twice n)
    else Ok (record t { pairs = t.pairs ++ record { i = i; j = j; k = k } ∷ [] })

-- with the heat capacity of a place that has none yet
abbrev pub with_place : ℕ → Held → ℕ → List ℤ → Result Held TableFault
with_place n t i cp =
    if list_any (is_of i) t.cps then Err (Twice n)
    else Ok (record t { cps = t.cps ++ record { i = i; cp = cp } ∷ [] })

-- with the interaction of the record n: two earlier components that differ and have none yet
unfoldable pub with_pair : ℕ → Held → List ℕ → List ℕ → ℤ → Result Held TableFault
with_pair n t first second k = do
  i ← known n t.comps first
  j ← known n t.comps second
  with_places n t i j k

-- with the heat capacity of the record n: an earlier component that has none yet
unfoldable pub with_cp : ℕ → Held → List ℕ → List ℤ → Result Held TableFault
with_cp n t name cp = do
  i ← known n t.comps name
  with_place n t i cp

-- with what the record n says
abbrev pub with_record : ℕ → Held → PlainRecord → Result Held TableFault
with_record n t (PlainComp row) = with_comp n t row
with_record n t (PlainPair first second k) = with_pair n t first second k
with_record n t (PlainCp name cp) = with_cp n t name cp

-- with the fields of the record n
unfoldable pub with_fields : ℕ → Held → List (List ℕ) → Result Held TableFault
with_fields n t fields = record_of n fields >>= with_record n t

-- with these records, the first of which is the record n
unfoldable pub with_records : ℕ → Held → List (List (List ℕ)) → Result Held TableFault
with_records n t [] = Ok t
with_records n t (fields ∷ rest) = do
  more ← with_fields n t fields
  with_records (n + 1) more rest

-- the table of the records, or their first fault: there is at least one record, and they are numbered from 1
unfoldable pub table_of : List (List (List ℕ)) → Result Held TableFault
table_of [] = Err (Fields 1)
table_of (fields ∷ rest) = with_records 1 nothing (fields ∷ rest)

-- what a refusal says of the table; want of memory says nothing
abbrev pub Explains : Result Held TableFault → TableError → Type 0
Explains table (Fault fault) = table ≡ Err fault
Explains table Memory = ⊤
