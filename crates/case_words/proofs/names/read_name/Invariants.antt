use Rattle.std.proofs.Common.{◌≡◌, ℕ, ◌<◌, ◌≤◌, get_or, length, take}
use Rattle.std.specs.Prelude.{IsTrue}
use Rattle.case_types.specs.Ranges.{is_name_byte}
use Rattle.case_words.proofs.names.read_name.Given as goal

abbrev pub invariant-loop-i : goal.invariant-loop-i
invariant-loop-i l = record {
  size : length l.bytes ≡ 16;
  spelled : (k : ℕ) → k < l.i → IsTrue (is_name_byte (get_or l.bytes k 0));
  copied : take l.i l.bytes ≡ take l.i l.text;
  rest : (k : ℕ) → l.i ≤ k → get_or l.bytes k 0 ≡ 0;
}
