-- Lowest terms: both numbers over their greatest common divisor.
use Rattle.std.proofs.Common.{ℕ, zero, suc, ◌*◌, ◌/◌, ◌<◌, ◌≤◌, ◌≡◌, refl, ap, subst, arith}
use Rattle.std.proofs.lemmas.Bool.Decides.{nat_tests}
use Rattle.std.proofs.Math.Nat.{div-mul_cancel, dvd_of_mul-dvd-mul_right, mul-dvd-mul_right, dvd-mul_right, one-mul}
use lib.IntN.{ℤ, pos, negsuc, neg_ℤ, ◌*ℤ◌, nat_abs}
use Rattle.std.specs.Prelude.{IsTrue, IsFalse, int_lt}
use Prim.Native.Nat.{◌∣◌}
use Rattle.std.specs.Int.{IsGcd}
use Rattle.log_laws.proofs.Ring.{neg-mul}

-- a positive number over a divisor is positive
pub quotient_positive : (n g : ℕ) → g ∣ n → 1 ≤ n → 1 ≤ n / g
quotient_positive n g h l = some (n / g) (div-mul_cancel g h)
  where
    some : (q : ℕ) → q * g ≡ n → 1 ≤ q
    some zero e = absurd (omega arith)
    some (suc q) e = omega arith

pub lowest : (n d g : ℕ) → 0 < g → IsGcd n d g → IsGcd (n / g) (d / g) 1
lowest n d g p h = (one_divides (n / g), one_divides (d / g), λ e a b. dvd_of_mul-dvd-mul_right e p (back e a b))
  where
    one_divides : (m : ℕ) → 1 ∣ m
    one_divides m = subst (λ (k : ℕ). 1 ∣ k) (one-mul m) (dvd-mul_right 1 m)

    back : (e : ℕ) → e ∣ n / g → e ∣ d / g → e * g ∣ 1 * g
    back e a b = rw (one-mul g)
        (h.2 (e * g)
        (subst (λ (m : ℕ). e * g ∣ m) (div-mul_cancel g h.0) (mul-dvd-mul_right e a g))
        (subst (λ (m : ℕ). e * g ∣ m) (div-mul_cancel g h.1) (mul-dvd-mul_right e b g)))

not_negative : (n : ℕ) → IsFalse (int_lt (pos n) (pos 0))
not_negative n = grind (arith, nat_tests)

crossed : (n d p q g : ℕ) → p * g ≡ n → q * g ≡ d → p * d ≡ n * q
crossed n d p q g e f = rw (← e, ← f) (omega arith)

-- a number of the size n / g and the sign of z is to d / g as z is to d
pub same_quotient : (z y : ℤ) (d g : ℕ) → g ∣ nat_abs z → g ∣ d →
    (IsTrue (int_lt z (pos 0)) → y ≡ neg_ℤ (pos (nat_abs z / g))) → (IsFalse (int_lt z (pos 0)) → y ≡ pos (nat_abs z / g)) →
    y *ℤ pos d ≡ z *ℤ pos (d / g)
same_quotient (pos n) y d g a b neg non =
    rw (non (not_negative n)) (ap pos (crossed n d (n / g) (d / g) g (div-mul_cancel g a) (div-mul_cancel g b)))
same_quotient (negsuc n) y d g a b neg non =
    rw (neg refl, neg-mul (pos (suc n / g)) (pos d))
    (ap (λ (m : ℕ). neg_ℤ (pos m)) (crossed (suc n) d (suc n / g) (d / g) g (div-mul_cancel g a) (div-mul_cancel g b)))

-- its size is n / g
pub size_of_quotient : (z y : ℤ) (g : ℕ) → (IsTrue (int_lt z (pos 0)) → y ≡ neg_ℤ (pos (nat_abs z / g))) → (IsFalse (int_lt z (pos 0)) → y ≡ pos (nat_abs z / g)) →
    nat_abs y ≡ nat_abs z / g
size_of_quotient (pos n) y g neg non = rw (non (not_negative n)) refl
size_of_quotient (negsuc n) y g neg non = rw (neg refl) (size_of_negative (suc n / g))
  where
    size_of_negative : (m : ℕ) → nat_abs (neg_ℤ (pos m)) ≡ m
    size_of_negative zero = refl
    size_of_negative (suc m) = refl
