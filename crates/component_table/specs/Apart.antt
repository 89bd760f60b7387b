-- What a table keeps beside ranges: names and places that stand for one thing each.
use Rattle.std.specs.Prelude.{ℕ, List, [], ◌∷◌, Bool, true, not, ◌&&◌, ◌==◌, nat_le}
use Rattle.std.specs.List.{list_all, list_any}
use Rattle.std.specs.Str.{bytes_eq}
use Rattle.case_words.specs.Names.{is_name_length}
use Rattle.component_table.specs.declared.rows.PairRow.{PairRow}
use Rattle.component_table.specs.declared.rows.CpRow.{CpRow}
use Rattle.component_table.specs.Records.{PlainRow, is_coefficient}
use Rattle.component_table.specs.Tables.{is_pair, is_of}

-- no item is the same as a later one
unfoldable pub are_apart : {X : Type 0} → (X → X → Bool) → List X → Bool
are_apart same [] = true
are_apart same (x ∷ xs) = not (list_any (same x) xs) && are_apart same xs

-- two components of one name
abbrev pub is_namesake : PlainRow → PlainRow → Bool
is_namesake a b = bytes_eq a.name b.name

-- two interactions of the same two components, in either order
abbrev pub is_same_pair : PairRow → PairRow → Bool
is_same_pair p q = is_pair q.i q.j p

-- two heat capacities of one component
abbrev pub is_same_cp : CpRow → CpRow → Bool
is_same_cp c d = is_of d.i c

-- the name has 1 to 16 bytes
abbrev pub is_named : PlainRow → Bool
is_named row = is_name_length row.name

-- the place of one of n components, from 1
abbrev pub is_place : ℕ → ℕ → Bool
is_place n i = nat_le 1 i && nat_le i n

-- an interaction of two of n components, which differ
abbrev pub is_between : ℕ → PairRow → Bool
is_between n p = is_place n p.i && (is_place n p.j && not (p.i == p.j))

-- a heat capacity of one of n components
abbrev pub is_cp_of : ℕ → CpRow → Bool
is_cp_of n c = is_place n c.i

-- the coefficients of a heat capacity are in their range
abbrev pub is_cp_row : CpRow → Bool
is_cp_row c = list_all is_coefficient c.cp
