-- The records of a text of comma-separated fields, in order.
use Rattle.std.specs.Prelude.{ℕ, List}
use Rattle.csv.specs.Reading.{records, default_config, strip_bom}

-- every record of the bytes, as `csv` reads them with no header row: a byte order mark at the start is dropped, an empty
-- line is no record, and a quote is special at the start of a field
unfoldable pub records_of : List ℕ → List (List (List ℕ))
records_of bytes = records default_config (strip_bom bytes)
