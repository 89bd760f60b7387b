use Rattle.std.proofs.Common.{ℕ, ap, sym, ◌∙◌}
use Rattle.case_words.specs.Items.{number_of, quantity_of}
use Rattle.case_words.specs.Quantities.{least, greatest}
use Rattle.case_words.proofs.Steps.{answers-same}
use Rattle.case_words.proofs.items.read_quantity.Goals as goal

pub returns : goal.returns
unfolding quantity_of
returns c =
    answers-same _ (quantity_of c.args.place c.args.by c.args.text.now)
    (number_of c.args.place c.places.result c.least.result c.greatest.result c.args.text.now) c.read_number.result
    (ap (λ (n : ℕ). number_of c.args.place n (least c.args.by) (greatest c.args.by) c.args.text.now) (sym c.places.ensures.value)
    ∙ ap (λ (n : ℕ). number_of c.args.place c.places.result n (greatest c.args.by) c.args.text.now) (sym c.least.ensures)
    ∙ ap (λ (n : ℕ). number_of c.args.place c.places.result c.least.result n c.args.text.now) (sym c.greatest.ensures))
    c.read_number.ensures.exact
