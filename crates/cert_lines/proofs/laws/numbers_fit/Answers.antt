use Rattle.cert_lines.proofs.NumbersOf.{numbers_fit}
use Rattle.cert_lines.proofs.laws.numbers_fit.Goals as goal

pub returns : goal.returns
returns c = numbers_fit
