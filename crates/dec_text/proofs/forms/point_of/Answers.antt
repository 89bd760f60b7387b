use Rattle.std.proofs.Common.{ℕ, ◌<◌, length, arith, rules, sym}
use Rattle.std.proofs.lemmas.List.Sums.{position_or_len_is}
use Rattle.dec_text.specs.Decimals.{is_point}
use Rattle.dec_text.proofs.forms.point_of.Goals as goal

pub returns-then-b-eq46-clause-at : goal.returns-then-b-eq46-clause-at
returns-then-b-eq46-clause-at c =
    sym (position_or_len_is is_point c.args.text.now c.loop-i.i 0 (omega arith) c.loop-i.invariant (λ (h : c.loop-i.i < length c.args.text.now). search rules))

pub returns-clause-at : goal.returns-clause-at
returns-clause-at c =
    sym (position_or_len_is is_point c.args.text.now (length c.args.text.now) 0 (omega arith)
    (λ (k : ℕ) (h : k < length c.args.text.now). c.loop-i.invariant k (omega arith)) (λ (h : length c.args.text.now < length c.args.text.now). absurd (omega arith)))
