-- Planes with the same potentials of n components are the same at compositions, over boxes and over cells.
use Rattle.std.proofs.Common.{◌≡◌, ℕ, ◌-◌, ◌<◌, ◌≤◌, List, refl, arith, ℤ, pos, ◌*ℤ◌, ◌-ℤ◌}
use Rattle.std.specs.Prelude.{slice_index}
use Rattle.log_laws.proofs.Exports.{sum-same, affine_high-same, greatest_below-same}
use Rattle.case_types.specs.Arithmetic.Bounds.{Box, potential, plane_times, plane_at, plane_high}
use Rattle.case_types.specs.Arithmetic.Same.{ArePotentialsSame}
use Rattle.case_types.specs.Grid.Cells.{Region, cell_low, box_of_region}

-- ---- at a composition
pub plane_at-same : (n : ℕ) (lam mu : List ℤ) (z y : List ℕ) (total : ℕ) → ArePotentialsSame n lam mu → ((i : ℕ) → i < n → slice_index z i ≡ slice_index y i) →
    plane_at n lam z total ≡ plane_at n mu y total
unfolding plane_at plane_times
plane_at-same n lam mu z y total s e =
    rw (sum-same n (λ i. potential lam i *ℤ pos (slice_index z i)) (λ i. potential mu i *ℤ pos (slice_index y i)) (λ i l. rw (s i l, e i l) refl)) refl

-- ---- over a cell
plane_high-same : (n : ℕ) (lam mu : List ℤ) (x : Box) → 1 ≤ n → ArePotentialsSame n lam mu → plane_high n lam x ≡ plane_high n mu x
unfolding plane_high
plane_high-same n lam mu x some s =
    let last : potential lam (n - 1) ≡ potential mu (n - 1) = s (n - 1) (omega (arith, some)) in
    rw (
      greatest_below-same n (potential lam) (potential mu) (potential lam 0) s,
      s 0 (omega (arith, some)),
      affine_high-same (n - 1) (potential lam (n - 1)) (λ i. potential lam i -ℤ potential lam (n - 1)) (λ i. potential mu i -ℤ potential mu (n - 1)) (slice_index x.lo) (slice_index x.hi)
          (λ i l. rw (s i (omega (arith, l)), last) refl),
      last,
    ) refl

pub cell_low-same : (n : ℕ) (low : Box → ℕ → ℕ → ℤ) (lam mu : List ℤ) (r : Region) → 1 ≤ n → ArePotentialsSame n lam mu → cell_low n low lam r ≡ cell_low n low mu r
unfolding cell_low
cell_low-same n low lam mu r some s = rw (plane_high-same n lam mu (box_of_region n r) some s) refl
