use Rattle.answer_sizes.proofs.AnswersSmall.{answers_are_small}
use Rattle.answer_sizes.proofs.laws.answers_are_small.Goals as goal

pub returns : goal.returns
returns c = answers_are_small
