use Rattle.std.proofs.Common.{ℕ, ◌≡◌, ◌≤◌, ◌<◌, slice_index}
use Rattle.exact_lp.proofs.tests.has_no_rest.Given as goal

-- no part stands from n to i
abbrev pub invariant-loop-i : goal.invariant-loop-i
invariant-loop-i l = (j : ℕ) → l.n ≤ j → j < l.i → slice_index l.x j ≡ 0
