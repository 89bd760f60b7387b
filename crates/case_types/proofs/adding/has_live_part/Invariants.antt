use Rattle.std.proofs.Common.{◌≡◌, slice_index}
use Rattle.log_laws.specs.Sums.{sum_below}
use Rattle.case_types.proofs.adding.has_live_part.Given as goal

-- no part stands before i
abbrev pub invariant-loop-i : goal.invariant-loop-i
invariant-loop-i l = sum_below l.i (slice_index l.phase.parts) ≡ 0
