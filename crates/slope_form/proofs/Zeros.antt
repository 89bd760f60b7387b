-- Products and quotients of 0.
use Rattle.std.proofs.Common.{◌≡◌, ◌^◌, refl, false, unsigned_abs, ℤ, pos, ◌*ℤ◌, ◌∙◌, Some}
use Rattle.std.specs.Prelude.{int_lt}
use Rattle.std.proofs.Math.IntN.{*ℤ_comm, zero-*ℤ}
use Rattle.std.proofs.Math.Nat.{zero-div}
use Rattle.log_laws.specs.Between.{Ends}
use Rattle.log_laws.specs.Interval.{ends}
use Rattle.slope_form.specs.Arithmetic.{capped, product_of_ends, quotient_of_ends}

times_zero : (z : ℤ) → z *ℤ pos 0 ≡ pos 0
times_zero z = *ℤ_comm z (pos 0) ∙ zero-*ℤ z

-- ends that are there, of 0
capped_zero : capped (pos 0) (pos 0) ≡ Some (ends (pos 0) (pos 0))
unfolding capped
capped_zero = refl

pub product_of_zero : (v w : Ends) → v.lo ≡ pos 0 → v.hi ≡ pos 0 → product_of_ends v w ≡ Some (ends (pos 0) (pos 0))
unfolding product_of_ends
product_of_zero v w lo hi = rw (lo, hi, zero-*ℤ w.lo, zero-*ℤ w.hi) capped_zero

pub product_by_zero : (v w : Ends) → w.lo ≡ pos 0 → w.hi ≡ pos 0 → product_of_ends v w ≡ Some (ends (pos 0) (pos 0))
unfolding product_of_ends
product_by_zero v w lo hi = rw (lo, hi, times_zero v.lo, times_zero v.hi) capped_zero

-- where the divisor begins at 1 or above
pub quotient_of_zero : (v w : Ends) → v.lo ≡ pos 0 → v.hi ≡ pos 0 → int_lt w.lo (pos 1) ≡ false → quotient_of_ends v w ≡ Some (ends (pos 0) (pos 0))
unfolding quotient_of_ends
quotient_of_zero v w lo hi one =
    rw (one, lo, hi, zero-*ℤ (pos (2 ^ 40)), zero-div (unsigned_abs w.lo), zero-div (unsigned_abs w.hi)) capped_zero
