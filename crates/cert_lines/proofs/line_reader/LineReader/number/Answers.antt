use Rattle.std.proofs.Common.{◌∙◌, sym, ap, rules, SFits}
use Rattle.std.specs.Int.{w128}
use Rattle.std.proofs.lemmas.Int.{to_z-of_z}
use Rattle.cert_lines.specs.Lines.{Said}
use Rattle.cert_lines.specs.Heads.{number_in}
use Rattle.cert_lines.specs.Indices.{index_of}
use Rattle.cert_lines.proofs.Entries.{there, not_there}
use Rattle.cert_lines.proofs.line_reader.LineReader.number.Goals as goal

pub returns-in-Some : goal.returns-in-Some
returns-in-Some c =
    let fits : SFits w128 c.number_in.result = search rules in
    to_z-of_z w128 c.number_in.result fits
    ∙ c.number_in.ensures
    ∙ sym (ap (λ (s : Said). number_in s c.args.at) (there c.args.self.now.said (index_of c.args.self.now.shape c.args.place) _ _ c.in-Some.ensures))

pub returns-in-None : goal.returns-in-None
returns-in-None c =
    sym (ap (λ (s : Said). number_in s c.args.at) (not_there c.args.self.now.said (index_of c.args.self.now.shape c.args.place) _ c.in-None.ensures))
