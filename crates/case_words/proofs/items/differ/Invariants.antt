use Rattle.std.proofs.Common.{◌≡◌, drop, map}
use Rattle.case_words.specs.Names.{text_of, are_different}
use Rattle.case_words.proofs.items.differ.Given as goal

abbrev pub invariant-loop-i : goal.invariant-loop-i
invariant-loop-i l = are_different (map text_of l.names) ≡ are_different (drop l.i (map text_of l.names))
