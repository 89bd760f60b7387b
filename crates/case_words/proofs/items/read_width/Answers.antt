use Rattle.std.proofs.Common.{ℕ, ap, sym}
use Rattle.case_words.specs.Items.{number_of, width_of}
use Rattle.case_words.proofs.Steps.{answers-same}
use Rattle.case_words.proofs.items.read_width.Goals as goal

pub returns : goal.returns
unfolding width_of
returns c =
    answers-same _ (width_of c.args.place c.args.by c.args.text.now) (number_of c.args.place c.places.result 1 4294967295 c.args.text.now) c.read_number.result
    (ap (λ (n : ℕ). number_of c.args.place n 1 4294967295 c.args.text.now) (sym c.places.ensures.value)) c.read_number.ensures.exact
