-- The heat capacities of the components of a case.
use Rattle.std.specs.Prelude.{ℕ, ◌+◌, List, [], ◌∷◌, Bool, true, if◌then◌else◌, ℤ, Option, Some, None, Result, Ok, Err, ⊤}
use Rattle.std.specs.List.{list_all}
use Rattle.component_table.specs.declared.cases.CaseFault.{CaseFault}
use Rattle.component_table.specs.declared.cases.CaseFault.TheVariants.{NoCp}
use Rattle.component_table.specs.declared.rows.CpRow.{CpRow}
use Rattle.component_table.specs.Records.{is_coefficient}
use Rattle.component_table.specs.Tables.{is_of}

-- of the component at a place, where the table has one
unfoldable pub capacity_in : List CpRow → ℕ → Option (List ℤ)
capacity_in [] place = None
capacity_in (row ∷ rows) place = if is_of place row then Some row.cp else capacity_in rows place

-- where there is one, its coefficients are in their range
abbrev pub is_capacity : Option (List ℤ) → Bool
is_capacity None = true
is_capacity (Some cp) = list_all is_coefficient cp

-- each live name has one, or the fault of the first that hasn't, by its place from 1
unfoldable pub all_there : List ℕ → List (Option (List ℤ)) → Result ⊤ CaseFault
all_there (name ∷ names) (None ∷ cps) = Err (NoCp (name + 1))
all_there (name ∷ names) (Some cp ∷ cps) = all_there names cps
all_there [] cps = Ok tt
all_there (name ∷ names) [] = Ok tt
