-- A plane at a composition.
use Rattle.std.proofs.Common.{◌≡◌, ℕ, ◌^◌, List, ℤ, pos, ◌*ℤ◌, slice_index, slice_index_or, refl}
use Rattle.log_laws.specs.Sums.{int_sum_below}
use Rattle.log_laws.specs.Whole.{floor_over}
use Rattle.case_types.specs.declared.cases.Case.{Case}
use Rattle.case_types.specs.Arithmetic.Bounds.{plane_at, plane_times}

pub plane_times_is : (n : ℕ) (lam : List ℤ) (parts : List ℕ) (sum : ℤ) → sum ≡ int_sum_below n (λ i. slice_index_or lam i (pos 0) *ℤ pos (slice_index parts i)) → sum ≡ plane_times n lam parts
unfolding plane_times
plane_times_is n lam parts sum e = e

pub plane_on_is : (n : ℕ) (lam : List ℤ) (comp : List ℕ) (sum result : ℤ) → sum ≡ plane_times n lam comp → result ≡ floor_over sum (2 ^ 20) → result ≡ plane_at n lam comp (2 ^ 20)
unfolding plane_at
plane_on_is n lam comp sum result e f = rw (f, e) refl

-- at the feed
pub at_feed : (c : Case) (lam : List ℤ) (sum result : ℤ) → sum ≡ plane_times c.n lam c.z → result ≡ floor_over sum c.total → result ≡ plane_at c.n lam c.z c.total
unfolding plane_at
at_feed c lam sum result e f = rw (f, e) refl
