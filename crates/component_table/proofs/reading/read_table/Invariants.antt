use Rattle.std.proofs.Common.{◌≡◌, ◌<◌, ◌≤◌, ℕ, List, Some, Ok, length}
use Rattle.csv.specs.Reading.{Reached, Ready, default_config, source_of, strip_bom}
use Rattle.csv.specs.declared.parser.State.TheVariants as st
use Rattle.csv.specs.declared.reader.Trim.TheVariants as trim
use Rattle.component_table.specs.Tables.{nothing, with_records}
use Rattle.component_table.specs.Views.{drafted}
use Rattle.component_table.proofs.reading.read_table.Given as goal

abbrev pub invariant-loop-record : goal.invariant-loop-record
invariant-loop-record l =
    (l.record-iterator.rdr.trim ≡ trim.None) × Ready l.record-iterator.rdr × (0 < l.record-iterator.left) × (l.record-iterator.rdr.config ≡ default_config)
    × (y : List ℕ) × (source_of (λ s. Some s.now) l.record-iterator.rdr ≡ Some y)
    × (seen : List (List (List ℕ))) × Reached default_config st.StartRecord (strip_bom l.fn.bytes) seen l.record-iterator.rdr.state y
    × (with_records 1 nothing seen ≡ Ok (drafted l.draft)) × (length seen ≡ l.n) × (length l.draft.comps.items ≤ 256)
