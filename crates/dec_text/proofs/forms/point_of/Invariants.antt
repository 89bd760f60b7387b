use Rattle.std.proofs.Common.{◌≡◌, ℕ, ◌<◌, get_or, false}
use Rattle.dec_text.specs.Decimals.{is_point}
use Rattle.dec_text.proofs.forms.point_of.Given as goal

abbrev pub invariant-loop-i : goal.invariant-loop-i
invariant-loop-i l = (k : ℕ) → k < l.i → is_point (get_or l.text k 0) ≡ false
