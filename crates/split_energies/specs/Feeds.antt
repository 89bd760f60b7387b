-- The whole feed in one phase.
use Rattle.std.specs.Prelude.{ℕ, ◌≡◌, if◌then◌else◌, nat_lt, [], ◌∷◌, slice_index}
use Rattle.case_types.specs.declared.cases.Case.{Case}
use Rattle.case_types.specs.declared.phases.Phase.{Phase}
use Rattle.case_types.specs.declared.phases.Split.{Split}

-- the feed as a phase, and nothing of components that aren't there
abbrev pub feed_part : Case → ℕ → ℕ
feed_part c i = if nat_lt i c.n then slice_index c.z i else 0

abbrev pub feed_phase : Case → ℕ → Phase
feed_phase c y = record { parts = feed_part c 0 ∷ feed_part c 1 ∷ feed_part c 2 ∷ feed_part c 3 ∷ []; packing = y }

pub record IsOnePhase (c : Case) (y : ℕ) (s : Split) : Type 0 where
  pub sum : s.sum ≡ c.total
  pub phases : s.phases.items ≡ feed_phase c y ∷ []
