use Rattle.std.proofs.Common.{[], Some, ap, sym}
use Rattle.cert_lines.specs.Heads.{Draft}
use Rattle.cert_lines.specs.HeadTexts.{with_lines}
use Rattle.cert_format.proofs.head_reader.HeadReader.new.Goals as goal

pub invariant_of-result : goal.invariant_of-result
unfolding with_lines
invariant_of-result c = ([], ap (λ (d : Draft). Some d) (sym c.new.ensures))
