-- Signs and the order of products of integers, and factors that cancel.
use Rattle.std.proofs.Common.{◌≡◌, ℕ, suc, ◌*◌, ◌<◌, ◌⊎◌, inl, inr, ℤ, pos, negsuc, ◌+ℤ◌, ◌*ℤ◌, ◌≤ℤ◌, ◌<ℤ◌, neg_ℤ, ap, ◌∙◌, arith}
use Rattle.std.proofs.Math.IntN.{*ℤ_comm}
use Rattle.std.proofs.Math.Nat.{mul-pos, eq_of_mul-eq-mul_left}
use Rattle.std.proofs.lemmas.Bool.{cases_lt}
use Rattle.std.proofs.lemmas.Int.{ints}
use Rattle.log_laws.proofs.Ring.{mul-le_ℤ, add-mul_ℤ}

-- of two numbers one is at most the other
pub no_less : (a b : ℤ) → (a ≤ℤ b) ⊎ (b <ℤ a)
no_less (pos a) (pos b) = elim (cases_lt b a) [ inl h ↦ inr (omega (arith, ints, h)) | inr h ↦ inl (omega (arith, ints, h)) ]
no_less (pos a) (negsuc b) = inr (omega (arith, ints))
no_less (negsuc a) (pos b) = inl (omega (arith, ints))
no_less (negsuc a) (negsuc b) = elim (cases_lt a b) [ inl h ↦ inr (omega (arith, ints, h)) | inr h ↦ inl (omega (arith, ints, h)) ]

-- a number or its opposite isn't negative
pub either_sign : (z : ℤ) → (pos 0 ≤ℤ z) ⊎ (pos 0 ≤ℤ neg_ℤ z)
either_sign (pos n) = inl (omega (arith, ints))
either_sign (negsuc n) = inr (omega (arith, ints))

-- ---- signs of products
pub products_up : (a b : ℤ) → pos 0 ≤ℤ a → pos 0 ≤ℤ b → pos 0 ≤ℤ (a *ℤ b)
products_up (pos a) (pos b) h k = omega (arith, ints)
products_up (pos a) (negsuc b) h k = absurd (omega (arith, ints, k))
products_up (negsuc a) b h k = absurd (omega (arith, ints, h))

pub products_down : (a b : ℤ) → a ≤ℤ pos 0 → pos 0 ≤ℤ b → (a *ℤ b) ≤ℤ pos 0
products_down (pos a) b h k = let e : a ≡ 0 = omega (arith, ints, h) in rw e (omega (arith, ints))
products_down (negsuc a) (pos b) h k = omega (arith, ints)
products_down (negsuc a) (negsuc b) h k = absurd (omega (arith, ints, k))

pub factor_up : (s : ℕ) (u : ℤ) → 0 < s → pos 0 ≤ℤ (pos s *ℤ u) → pos 0 ≤ℤ u
factor_up s (pos u) h k = omega (arith, ints)
factor_up s (negsuc u) h k = absurd (omega (arith, ints, k, mul-pos h (above u)))
  where
    above : (u : ℕ) → 0 < suc u
    above u = omega arith

-- ---- factors above 0
above_zero : (b : ℕ) → 0 < suc b
above_zero b = omega arith

pub cancel : (s : ℕ) (a b : ℤ) → 0 < s → pos s *ℤ a ≡ pos s *ℤ b → a ≡ b
cancel s (pos a) (pos b) h e = ap pos (eq_of_mul-eq-mul_left s h a b (omega (arith, ints, e)))
cancel s (pos a) (negsuc b) h e = absurd (omega (arith, ints, e, mul-pos h (above_zero b)))
cancel s (negsuc a) (pos b) h e = absurd (omega (arith, ints, e, mul-pos h (above_zero a)))
cancel s (negsuc a) (negsuc b) h e =
    let same : suc a ≡ suc b = eq_of_mul-eq-mul_left s h (suc a) (suc b) (omega (arith, ints, e)) in
    ap negsuc (omega (arith, same))

pub scale_less : (p q : ℤ) (s : ℕ) → 0 < s → p <ℤ q → (p *ℤ pos s) <ℤ (q *ℤ pos s)
scale_less p q s h k =
    let e : (p +ℤ pos 1) *ℤ pos s ≡ p *ℤ pos s +ℤ pos (1 * s) = add-mul_ℤ p (pos 1) (pos s) in
    let le = mul-le_ℤ (p +ℤ pos 1) q s (omega (arith, ints, k)) in
    omega (arith, ints, rw e at le, h)

pub unscale_less : (p q : ℤ) (s : ℕ) → (p *ℤ pos s) <ℤ (q *ℤ pos s) → p <ℤ q
unscale_less p q s h =
    elim (no_less q p) [
      | inl le ↦ absurd (omega (arith, ints, h, mul-le_ℤ q p s le))
      | inr less ↦ less
    ]

pub unscale_same : (p q : ℤ) (s : ℕ) → 0 < s → p *ℤ pos s ≡ q *ℤ pos s → p ≡ q
unscale_same p q s h e = cancel s p q h (*ℤ_comm (pos s) p ∙ e ∙ *ℤ_comm q (pos s))
