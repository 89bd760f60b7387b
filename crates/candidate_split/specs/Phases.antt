-- Phases that can be weighed.
use Rattle.std.specs.Prelude.{ℕ, ◌^◌, ◌<◌, ◌≤◌, slice_index}
use Rattle.log_laws.specs.Sums.{sum_below}
use Rattle.case_types.specs.declared.phases.Phase.{Phase}

-- the phase has parts of n components, few enough to be counted, and a packing inside
pub record IsCounted (n : ℕ) (f : Phase) : Type 0 where
  pub some : 1 ≤ sum_below n (slice_index f.parts)
  pub small : sum_below n (slice_index f.parts) < 2 ^ 106
  pub packed : 1 ≤ f.packing
  pub not_full : f.packing < 2 ^ 40
