use Rattle.std.proofs.Common.{ℕ, ◌≡◌, ◌+◌, ◌*◌, ◌^◌, ◌≤◌, List, drop, map}
use Rattle.case_types.specs.declared.phases.Phase.{Phase}
use Rattle.case_types.specs.Energy.Divisions.{parts_in, state_of}
use Rattle.cert_check.proofs.testing.parts_of.Given as goal

-- what is counted, with what is left, is the whole
pub record Counts (parts component index : ℕ) (phases : List Phase) : Type 0 where
  pub whole : parts + parts_in (map state_of (drop index phases)) component ≡ parts_in (map state_of phases) component
  pub small : parts ≤ index * 2 ^ 104

abbrev pub invariant-loop-phase : goal.invariant-loop-phase
invariant-loop-phase l = Counts l.parts l.component l.phase-index l.split.phases.items
