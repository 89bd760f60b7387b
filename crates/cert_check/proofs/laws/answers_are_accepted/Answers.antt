use Rattle.cert_check.proofs.OfAnswers.{answers_are_accepted}
use Rattle.cert_check.proofs.laws.answers_are_accepted.Goals as goal

pub returns : goal.returns
returns c = answers_are_accepted
