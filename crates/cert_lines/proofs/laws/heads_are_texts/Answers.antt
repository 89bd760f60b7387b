use Rattle.cert_lines.proofs.HeadText.{lines_take, lines_again, lines_one}
use Rattle.cert_lines.proofs.laws.heads_are_texts.Goals as goal

pub returns : goal.returns
returns c = (lines_take, lines_again, lines_one)
