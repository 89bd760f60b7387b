use Rattle.std.proofs.Common.{◌≡◌, ◌+◌, drop}
use Rattle.case_words.specs.Commands.{searched_by}
use Rattle.case_words.specs.Jobs.{with_words, nothing}
use Rattle.case_words.specs.Views.{gathered_of}
use Rattle.case_words.specs.Keeping.{IsKept}
use Rattle.case_words.proofs.reading.read_further.Given as goal

abbrev pub invariant-loop-i : goal.invariant-loop-i
invariant-loop-i l = record {
  so_far : with_words l.command 2 nothing l.words ≡ with_words l.command (l.i + 2) (gathered_of l.given) (drop l.i l.words);
  kept : IsKept (searched_by l.command) (gathered_of l.given);
}
