use Rattle.std.proofs.Common.{◌≡◌, slice_index}
use Rattle.log_laws.specs.Sums.{sum_below}
use Rattle.candidate_split.proofs.grid.sum_of.Given as goal

abbrev pub invariant-loop-i : goal.invariant-loop-i
invariant-loop-i l = record { whole : l.sum ≡ sum_below l.i (slice_index l.fractions) }
