use Rattle.std.proofs.Common.{sym}
use Rattle.case_words.proofs.Ranged.{number-value, number-range, number-good}
use Rattle.case_words.proofs.items.read_number.Goals as goal

pub returns-in-Err-clause-exact : goal.returns-in-Err-clause-exact
returns-in-Err-clause-exact c =
    number-value c.args.place c.args.places c.args.low c.args.high c.args.text.now c.in-Err.fault (sym c.in-Err.ensures)

pub returns-then-not-is_in-clause-exact : goal.returns-then-not-is_in-clause-exact
returns-then-not-is_in-clause-exact c =
    number-range c.args.place c.args.places c.args.low c.args.high c.args.text.now c.in-Ok.n (sym c.in-Ok.ensures) (sym c.if-not-is_in.ensures.exact)

pub returns-clause-exact : goal.returns-clause-exact
returns-clause-exact c =
    number-good c.args.place c.args.places c.args.low c.args.high c.args.text.now c.in-Ok.n (sym c.in-Ok.ensures) (sym c.if-not-is_in.ensures.exact)
