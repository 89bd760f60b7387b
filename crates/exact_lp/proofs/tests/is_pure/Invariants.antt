use Rattle.std.proofs.Common.{ℕ, ◌≡◌, ◌<◌, ◌^◌, slice_index}
use Rattle.std.specs.Prelude.{if◌then◌else◌, nat_eq}
use Rattle.exact_lp.proofs.tests.is_pure.Given as goal

-- the parts before i are those of the component k alone
abbrev pub invariant-loop-i : goal.invariant-loop-i
invariant-loop-i l = (j : ℕ) → j < l.i → slice_index l.column.comp j ≡ (if nat_eq j l.k then 2 ^ 20 else 0)
