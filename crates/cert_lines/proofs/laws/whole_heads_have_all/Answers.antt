use Rattle.cert_lines.proofs.Suiting.{whole_heads_have_all}
use Rattle.cert_lines.proofs.laws.whole_heads_have_all.Goals as goal

pub returns : goal.returns
returns c = whole_heads_have_all
