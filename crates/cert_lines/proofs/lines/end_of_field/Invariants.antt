use Rattle.std.proofs.Common.{◌≡◌, ℕ, ◌<◌, get_or, false}
use Rattle.cert_lines.specs.Lines.{is_space}
use Rattle.cert_lines.proofs.lines.end_of_field.Given as goal

abbrev pub invariant-loop-i : goal.invariant-loop-i
invariant-loop-i l = (k : ℕ) → k < l.i → is_space (get_or l.text k 0) ≡ false
