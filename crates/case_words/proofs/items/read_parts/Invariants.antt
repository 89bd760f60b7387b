use Rattle.std.proofs.Common.{◌≡◌, ◌*◌, ◌≤◌, length, drop}
use Rattle.std.specs.List.{sum}
use Rattle.case_words.specs.Answers.{each_of}
use Rattle.case_words.specs.Items.{items_of, number_of}
use Rattle.case_words.proofs.Each.{behind}
use Rattle.case_words.proofs.items.read_parts.Given as goal

abbrev pub invariant-loop-i : goal.invariant-loop-i
invariant-loop-i l = record {
  so_far : each_of (number_of l.place 0 0 1048576) (items_of l.text)
      ≡ behind l.parts.items (each_of (number_of l.place 0 0 1048576) (drop l.i (items_of l.text)));
  many : length l.parts.items ≡ l.i;
  total : l.total ≡ sum l.parts.items;
  small : l.total ≤ l.i * 1048576;
}
