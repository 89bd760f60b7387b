-- Planes with the same potentials of n components have the same lows over a cell, and pass the same leaves.
use Rattle.std.proofs.Common.{◌≡◌, ◌≤◌, List, refl, Some, ℤ, pos, ◌*ℤ◌, ap}
use Rattle.log_laws.specs.Interval.{ends}
use Rattle.log_laws.specs.Whole.{floor_over, ceil_over}
use Rattle.log_laws.proofs.Exports.{sum-same, all_below-same}
use Rattle.case_types.specs.Arithmetic.Bounds.{one, potential, plane_sum, energy_low}
use Rattle.case_types.specs.Arithmetic.Numbers.{Numbers}
use Rattle.case_types.specs.Arithmetic.Same.{ArePotentialsSame}
use Rattle.case_types.specs.Arithmetic.Tables.{no_ends}
use Rattle.case_types.specs.Grid.Cells.{Region, Mark, Misses, Plain, Sloped}
use Rattle.case_types.proofs.Exports.{cell_low-same}
use Rattle.cert_letters.specs.Bounds.{leaf_test}
use Rattle.pr_surface.specs.PengRobinson.{surface_of}
use Rattle.slope_form.specs.Arithmetic.{capped}
use Rattle.tangent_bound.specs.SlopeLows.{centre, has_small_potential, plane_form, slope_low}
use Rattle.tangent_bound.proofs.Exports.{form-same}

plane_form-same : (p : Numbers) (lam mu : List ℤ) (r : Region) → 1 ≤ p.count → ArePotentialsSame p.count lam mu → plane_form p lam r ≡ plane_form p mu r
unfolding plane_form
plane_form-same p lam mu r some s =
    let n = p.count in
    let sum : plane_sum n (potential lam) (centre n r) ≡ plane_sum n (potential mu) (centre n r) =
    sum-same n (λ i. potential lam i *ℤ pos (centre n r i)) (λ i. potential mu i *ℤ pos (centre n r i)) (λ i l. rw (s i l) refl) in
    rw (
      all_below-same n (has_small_potential lam) (has_small_potential mu) (λ i l. rw (s i l) refl),
      form-same n (let t = plane_sum n (potential lam) (centre n r) in capped (floor_over t one) (ceil_over t one))
          (let t = plane_sum n (potential mu) (centre n r) in capped (floor_over t one) (ceil_over t one))
          (λ i. Some (ends (potential lam i) (potential lam i))) (λ i. Some (ends (potential mu i) (potential mu i)))
          some (ap (λ t. capped (floor_over t one) (ceil_over t one)) sum) (λ i l. rw (s i l) refl) (Some no_ends),
    ) refl

slope_low-same : (p : Numbers) (lam mu : List ℤ) (r : Region) → 1 ≤ p.count → ArePotentialsSame p.count lam mu → slope_low p lam r ≡ slope_low p mu r
unfolding slope_low
slope_low-same p lam mu r some s = rw (plane_form-same p lam mu r some s) refl

-- ---- the leaves
pub leaf_test-same : (p : Numbers) (lam mu : List ℤ) (low : ℤ) (r : Region) (mark : Mark) → 1 ≤ p.count → ArePotentialsSame p.count lam mu →
    leaf_test (surface_of p) lam low r mark ≡ leaf_test (surface_of p) mu low r mark
unfolding leaf_test
leaf_test-same p lam mu low r Misses some s = refl
leaf_test-same p lam mu low r Plain some s = rw (cell_low-same p.count (energy_low p) lam mu r some s) refl
leaf_test-same p lam mu low r Sloped some s = rw (slope_low-same p lam mu r some s) refl
