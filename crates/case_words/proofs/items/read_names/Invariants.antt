use Rattle.std.proofs.Common.{◌≡◌, length, drop, map}
use Rattle.case_words.specs.Answers.{each_of}
use Rattle.case_words.specs.Names.{text_of}
use Rattle.case_words.specs.Items.{items_of}
use Rattle.case_words.proofs.Each.{behind}
use Rattle.case_words.proofs.Ranged.{read_as_name}
use Rattle.case_words.proofs.items.read_names.Given as goal

abbrev pub invariant-loop-i : goal.invariant-loop-i
invariant-loop-i l = record {
  so_far : each_of (read_as_name l.place) (items_of l.text)
      ≡ behind (map text_of l.names.items) (each_of (read_as_name l.place) (drop l.i (items_of l.text)));
  many : length l.names.items ≡ l.i;
}
