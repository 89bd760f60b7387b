use Rattle.std.proofs.Common.{◌≡◌, ◌+◌, ◌≤◌, take}
use Rattle.std.specs.List.{count_by}
use Rattle.case_words.specs.Items.{is_comma}
use Rattle.case_words.proofs.items.count_items.Given as goal

abbrev pub invariant-loop-b : goal.invariant-loop-b
invariant-loop-b l = record {
  counted : l.count ≡ count_by is_comma (take l.b-index l.text) + 1;
  few : l.count ≤ l.b-index + 1;
}
