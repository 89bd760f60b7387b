use Rattle.std.proofs.Common.{◌≡◌, ◌+◌, drop, map, get_or, []}
use Rattle.std.specs.List.{list_any}
use Rattle.std.specs.Str.{bytes_eq}
use Rattle.case_words.specs.Names.{text_of}
use Rattle.case_words.proofs.items.stands_after.Given as goal

abbrev pub invariant-loop-j : goal.invariant-loop-j
invariant-loop-j l =
    list_any (bytes_eq (get_or (map text_of l.names) l.at [])) (drop (l.at + 1) (map text_of l.names))
    ≡ list_any (bytes_eq (get_or (map text_of l.names) l.at [])) (drop l.j (map text_of l.names))
