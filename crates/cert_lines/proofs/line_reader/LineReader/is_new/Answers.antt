use Rattle.std.proofs.Common.{◌≡◌, ◌∙◌, sym, ap, map, Bool}
use Rattle.std.specs.Prelude.{List}
use Rattle.std.specs.List.{list_any}
use Rattle.std.specs.Str.{bytes_eq}
use Rattle.case_words.specs.Names.{text_of}
use Rattle.cert_lines.specs.declared.lines.Entry.{Entry}
use Rattle.cert_lines.specs.Lines.{Said, said_by}
use Rattle.cert_lines.proofs.Names.{stands, is_new}
use Rattle.cert_lines.proofs.line_reader.LineReader.is_new.Goals as goal

pub returns-then-is_named_in-clause-new : goal.returns-then-is_named_in-clause-new
returns-then-is_named_in-clause-new c =
    let found : Bool = list_any (λ (e : Said). bytes_eq e.name (text_of c.args.entry.now.name)) (map said_by c.self.inside.entries.items) in
    let same : c.is_named_in.result ≡ found = c.is_named_in.ensures ∙ ap (λ (es : List Entry). list_any (λ (e : Said). bytes_eq e.name (text_of c.args.entry.now.name)) (map said_by es)) c.as_slice.ensures.value in
    rw (← c.self.view_is) (stands found _ (sym same ∙ c.if-is_named_in.true))

pub returns-clause-new : goal.returns-clause-new
returns-clause-new c =
    let found : Bool = list_any (λ (e : Said). bytes_eq e.name (text_of c.args.entry.now.name)) (map said_by c.self.inside.entries.items) in
    let same : c.is_named_in.result ≡ found = c.is_named_in.ensures ∙ ap (λ (es : List Entry). list_any (λ (e : Said). bytes_eq e.name (text_of c.args.entry.now.name)) (map said_by es)) c.as_slice.ensures.value in
    rw (← c.self.view_is, c.part_of_feed.ensures.value) (is_new found _ (sym same ∙ c.if-is_named_in.false))
