use Rattle.std.proofs.Common.{◌+◌, arith, ap, sym, ◌∙◌, List, ℕ}
use Rattle.std.specs.List.{count_by}
use Rattle.std.proofs.lemmas.List.{take_all}
use Rattle.std.proofs.lemmas.List.Splits.{length-slice_split}
use Rattle.case_words.specs.Items.{is_comma}
use Rattle.case_words.proofs.items.count_items.Goals as goal

pub returns : goal.returns
returns c =
    c.loop-b.invariant.counted
    ∙ ap (λ (t : List ℕ). count_by is_comma t + 1) (take_all c.loop-b.b-index c.args.text.now (omega arith))
    ∙ sym (length-slice_split is_comma c.args.text.now)
