use Rattle.cert_letters.proofs.Counting.{letters_count}
use Rattle.cert_letters.proofs.laws.letters_count.Goals as goal

pub returns : goal.returns
returns c = letters_count
