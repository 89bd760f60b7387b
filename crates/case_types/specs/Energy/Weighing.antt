-- A plane weighed by the parts of a composition, and states above it.
use Rattle.std.specs.Prelude.{ℕ, ◌*◌, ◌^◌, ℤ, pos, ◌+ℤ◌, ◌*ℤ◌}
use Rattle.log_laws.specs.LogSum.{LogSum, AtLeast}
use Rattle.case_types.specs.Arithmetic.Bounds.{plane_sum}
use Rattle.case_types.specs.Energy.Divisions.{State, moles}

-- the energy of the state is at least the plane at its composition and the low
pub record IsAbovePlane (n : ℕ) (energy : State → LogSum) (lam : ℕ → ℤ) (low : ℤ) (f : State) : Type 0 where
  pub at_least : AtLeast (energy f) (record { num = plane_sum n lam f.parts +ℤ low *ℤ pos (moles n f); den = moles n f * 2 ^ 40 })
