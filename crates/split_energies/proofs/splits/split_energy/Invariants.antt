use Rattle.std.proofs.Common.{ℕ, ◌≡◌, ◌*◌, ◌^◌, ◌≤◌, ℤ, ◌+ℤ◌, unsigned_abs, List, drop}
use Rattle.case_types.specs.declared.phases.Phase.{Phase}
use Rattle.case_types.specs.Arithmetic.Bounds.{Box}
use Rattle.case_types.specs.Arithmetic.Splits.{phases_up}
use Rattle.split_energies.proofs.splits.split_energy.Given as goal

-- what is summed, with what is left, is the whole
pub record Sums (n : ℕ) (up : Box → ℕ → ℤ) (sum : ℕ) (energy : ℤ) (index : ℕ) (phases : List Phase) : Type 0 where
  pub whole : energy +ℤ phases_up n up sum (drop index phases) ≡ phases_up n up sum phases
  pub small : unsigned_abs energy ≤ index * 2 ^ 107

abbrev pub invariant-loop-phase : goal.invariant-loop-phase
invariant-loop-phase g l = Sums l.case.n (g.S.Surface.bounds l.surface).up l.split.sum l.energy l.phase-index l.split.phases.items
