use Rattle.std.proofs.Common.{◌≡◌, drop, map}
use Rattle.std.specs.List.{list_any}
use Rattle.std.specs.Str.{bytes_eq}
use Rattle.case_words.specs.Names.{text_of}
use Rattle.cert_lines.specs.Lines.{Said, said_by}
use Rattle.cert_lines.proofs.line_reader.is_named_in.Given as goal

abbrev pub invariant-loop-entry : goal.invariant-loop-entry
invariant-loop-entry l =
    list_any (λ (e : Said). bytes_eq e.name (text_of l.name)) (drop l.entry-index (map said_by l.entries))
    ≡ list_any (λ (e : Said). bytes_eq e.name (text_of l.name)) (map said_by l.entries)
