-- What the types hold, as the definitions see it.
use Rattle.std.specs.Prelude.{map}
use Rattle.case_words.specs.Names.{text_of}
use Rattle.component_table.specs.declared.tables.Table.{Table}
use Rattle.component_table.specs.declared.draft.Draft.{Draft}
use Rattle.component_table.specs.declared.records.Record.{Record}
use Rattle.component_table.specs.declared.records.Record.TheVariants.{Comp, Pair, Cp}
use Rattle.component_table.specs.Records.{PlainRecord, PlainComp, PlainPair, PlainCp}
use Rattle.component_table.specs.Rows.{plain_row}
use Rattle.component_table.specs.Tables.{Held}

-- what a record says, with names as bytes
abbrev pub plain_record : Record → PlainRecord
plain_record (Comp row) = PlainComp (plain_row row)
plain_record (Pair first second k) = PlainPair (text_of first) (text_of second) k
plain_record (Cp name cp) = PlainCp (text_of name) cp

-- what the records have given so far
abbrev pub drafted : Draft → Held
drafted d = record { comps = map plain_row d.comps.items; pairs = d.pairs.items; cps = d.cps.items }

-- what a table holds
abbrev pub held_by : Table → Held
held_by t = record { comps = map plain_row t.comps.items; pairs = t.pairs.items; cps = t.cps.items }
