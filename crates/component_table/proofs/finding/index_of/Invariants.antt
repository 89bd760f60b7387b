use Rattle.std.proofs.Common.{◌≡◌, ◌+◌, drop, map}
use Rattle.std.specs.List.{position_or_len}
use Rattle.case_words.specs.Names.{text_of}
use Rattle.component_table.specs.Tables.{has_name}
use Rattle.component_table.specs.Rows.{plain_row}
use Rattle.component_table.proofs.finding.index_of.Given as goal

abbrev pub invariant-loop-i : goal.invariant-loop-i
invariant-loop-i l =
    position_or_len (has_name (text_of l.name)) (map plain_row l.comps)
    ≡ l.i + position_or_len (has_name (text_of l.name)) (drop l.i (map plain_row l.comps))
