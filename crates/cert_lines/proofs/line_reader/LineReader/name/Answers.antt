use Rattle.std.proofs.Common.{◌∙◌, sym, ap}
use Rattle.cert_lines.specs.Lines.{Said}
use Rattle.cert_lines.specs.Indices.{index_of}
use Rattle.cert_lines.proofs.Entries.{not_there}
use Rattle.cert_lines.proofs.line_reader.LineReader.name.Goals as goal

pub returns-in-None : goal.returns-in-None
returns-in-None c =
    c.no_name.ensures ∙ sym (ap (λ (s : Said). s.name) (not_there c.args.self.now.said (index_of c.args.self.now.shape c.args.place) _ c.in-None.ensures))
