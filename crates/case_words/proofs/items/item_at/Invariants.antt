use Rattle.std.proofs.Common.{◌≡◌, drop}
use Rattle.case_words.specs.Items.{items_of}
use Rattle.case_words.proofs.items.item_at.Given as goal

abbrev pub invariant-loop-i : goal.invariant-loop-i
invariant-loop-i l = items_of l.rest ≡ drop l._i (items_of l.text)
