-- The energy of a split, at most, from bounds of the energy of its phases: in 2^-40 bit.
use Rattle.std.specs.Prelude.{ℕ, ◌^◌, List, [], ◌∷◌, ℤ, pos, ◌+ℤ◌, ◌*ℤ◌, slice_index}
use Rattle.std.specs.Int.{int_max}
use Rattle.log_laws.specs.Sums.{sum_below}
use Rattle.log_laws.specs.Whole.{ceil_div}
use Rattle.case_types.specs.declared.phases.Phase.{Phase}
use Rattle.case_types.specs.declared.phases.Split.{Split}
use Rattle.case_types.specs.Arithmetic.Bounds.{Box, box_of_parts, share_down, share_up}

-- a share of the sum times an energy, up: the share is rounded to the side that makes the product greater
abbrev pub share_of_energy : ℕ → ℕ → ℤ → ℤ
share_of_energy m sum u =
    ceil_div (int_max (pos (share_down (2 ^ 60) m sum) *ℤ u) (pos (share_up (2 ^ 60) m sum) *ℤ u)) (pos (2 ^ 60))

-- of n components, whose energy is at most `up` over a box and at a packing
abbrev pub phase_up : ℕ → (Box → ℕ → ℤ) → Phase → ℤ
phase_up n up f = up (box_of_parts n f.parts) f.packing

unfoldable pub phases_up : ℕ → (Box → ℕ → ℤ) → ℕ → List Phase → ℤ
phases_up n up sum [] = pos 0
phases_up n up sum (f ∷ fs) = share_of_energy (sum_below n (slice_index f.parts)) sum (phase_up n up f) +ℤ phases_up n up sum fs

-- U: the energy of the split is at most this
abbrev pub split_up : ℕ → (Box → ℕ → ℤ) → Split → ℤ
split_up n up s = phases_up n up s.sum s.phases.items
