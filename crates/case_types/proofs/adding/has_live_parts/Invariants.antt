use Rattle.std.proofs.Common.{ℕ, ◌<◌, get_or, map}
use Rattle.case_types.specs.Energy.Divisions.{State, moles, state_of}
use Rattle.case_types.proofs.adding.has_live_parts.Given as goal

-- each phase before this one has a live part
abbrev pub invariant-loop-phase : goal.invariant-loop-phase
invariant-loop-phase l =
    (k : ℕ) → k < l.phase-index → (d : State) → 0 < moles l.case.n (get_or (map state_of l.split.phases.items) k d)
