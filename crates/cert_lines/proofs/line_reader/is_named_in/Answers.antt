use Rattle.std.proofs.Common.{sym, ◌∙◌}
use Rattle.std.specs.Str.{bytes_eq}
use Rattle.case_words.specs.Names.{text_of}
use Rattle.cert_lines.specs.Lines.{Said}
use Rattle.cert_lines.proofs.Names.{any_here, any_more, any_end}
use Rattle.cert_lines.proofs.line_reader.is_named_in.Goals as goal

pub returns-then-has_name : goal.returns-then-has_name
returns-then-has_name c =
    sym (any_here (λ (e : Said). bytes_eq e.name (text_of c.args.name.now)) c.args.entries.now c.loop-entry.entry-index c.entry-item.result c.loop-entry-test.true c.entry-item.is (sym c.if-has_name.ensures)) ∙ c.loop-entry.invariant

pub loop-entry-preserved : goal.loop-entry-preserved
loop-entry-preserved c =
    sym (any_more (λ (e : Said). bytes_eq e.name (text_of c.args.name.now)) c.args.entries.now c.loop-entry.entry-index c.entry-item.result c.loop-entry-test.true c.entry-item.is (sym c.if-has_name.ensures)) ∙ c.loop-entry.invariant

pub returns : goal.returns
returns c =
    sym (any_end (λ (e : Said). bytes_eq e.name (text_of c.args.name.now)) c.args.entries.now c.loop-entry.entry-index c.loop-entry-test.false) ∙ c.loop-entry.invariant
