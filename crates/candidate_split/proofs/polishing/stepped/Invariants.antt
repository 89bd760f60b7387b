use Rattle.std.proofs.Common.{ℕ, ◌<◌, ◌≤◌, ◌^◌, slice_index}
use Rattle.candidate_split.proofs.polishing.stepped.Given as goal

abbrev pub invariant-loop-step : goal.invariant-loop-step
invariant-loop-step l = record {
  live : (i : ℕ) → i < l.params.case.n → 1 ≤ slice_index l.parts i;
  small : (i : ℕ) → slice_index l.parts i ≤ 2 ^ 32;
}
