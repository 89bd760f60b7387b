-- Components and interactions of a table, and their ranges.
use Rattle.std.specs.Prelude.{Bool, ◌&&◌}
use Rattle.case_types.specs.declared.cases.Row.{Row}
use Rattle.case_types.specs.Ranges.{is_critical_temperature, is_critical_pressure, is_acentric_factor, is_interaction}
use Rattle.case_words.specs.Names.{text_of}
use Rattle.component_table.specs.declared.rows.PairRow.{PairRow}
use Rattle.component_table.specs.Records.{PlainRow}

-- a component with its name as bytes
abbrev pub plain_row : Row → PlainRow
plain_row r = record { name = text_of r.name; tc = r.tc; pc = r.pc; w = r.w }

-- the numbers of a component are in their ranges
abbrev pub is_row : PlainRow → Bool
is_row row = is_critical_temperature row.tc && (is_critical_pressure row.pc && is_acentric_factor row.w)

-- the number of an interaction is in its range
abbrev pub is_pair_row : PairRow → Bool
is_pair_row p = is_interaction p.k
