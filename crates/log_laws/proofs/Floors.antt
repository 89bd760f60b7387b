-- Floors: of scaled quotients, by a shift that makes them natural, and of one number over two divisors.
use Rattle.std.proofs.Common.{◌≡◌, ℕ, ◌+◌, ◌*◌, ◌/◌, ◌%◌, ◌<◌, ◌≤◌, inl, inr, ℤ, pos, negsuc, ◌+ℤ◌, ◌-ℤ◌, ◌*ℤ◌, ◌≤ℤ◌, ◌<ℤ◌, ap, sym, ◌∙◌, arith}
use Rattle.std.proofs.Math.Nat.{add-mul-div_right, div-mul-le_self, lt-div-mul-add, mul-le-mul_left, le_trans, zero-div}
use Rattle.std.proofs.lemmas.Nat.{le-div}
use Rattle.std.proofs.lemmas.Int.{ints}
use Rattle.log_laws.specs.Whole.{floor_over}
use Rattle.log_laws.proofs.Ring.{floor_over-le, lt-floor_over, add-mul_ℤ, mul-le_ℤ}
use Rattle.log_laws.proofs.Signs.{no_less}

-- the floor is the one number between
between_floors : (f g : ℤ) (s : ℕ) → (f *ℤ pos s) <ℤ (g *ℤ pos s +ℤ pos s) → (g *ℤ pos s) <ℤ (f *ℤ pos s +ℤ pos s) → f ≡ g
between_floors f g s h k =
    elim (no_less f g) [
      | inl le ↦ elim (no_less g f) [
        | inl ge ↦ both f g le ge
        | inr less ↦ absurd (apart f g s less k)
      ]
      | inr less ↦ absurd (apart g f s less h)
    ]
  where
    both : (f g : ℤ) → f ≤ℤ g → g ≤ℤ f → f ≡ g
    both f g h k = omega (arith, ints)

    apart : (f g : ℤ) (s : ℕ) → f <ℤ g → (g *ℤ pos s) <ℤ (f *ℤ pos s +ℤ pos s) → ⊥
    apart f g s less h =
        let e : (f +ℤ pos 1) *ℤ pos s ≡ f *ℤ pos s +ℤ pos (1 * s) = add-mul_ℤ f (pos 1) (pos s) in
        let le = rw e at (mul-le_ℤ (f +ℤ pos 1) g s (omega (arith, ints, less))) in
        omega (arith, ints, le, h)

-- a quotient of a scaled number, its whole and its rest apart
pub scaled_quotient : (a s t : ℕ) → 0 < s → (a * t) / s ≡ (a / s) * t + ((a % s) * t) / s
scaled_quotient a s t h =
    let e : a * t ≡ (a % s) * t + ((a / s) * t) * s = apart a s t (rest a s h) in
    rw e (rw (add-mul-div_right ((a % s) * t) ((a / s) * t) h) (omega arith))
  where
    rest : (a s : ℕ) → 0 < s → a ≡ (a / s) * s + a % s
    rest a s h = omega (arith, h)

    apart : (a s t : ℕ) → a ≡ (a / s) * s + a % s → a * t ≡ (a % s) * t + ((a / s) * t) * s
    apart a s t e = ap (λ (x : ℕ). x * t) e ∙ spread (a / s) (a % s) s t
      where
        spread : (q r s t : ℕ) → (q * s + r) * t ≡ r * t + (q * t) * s
        spread q r s t = omega arith

-- the floor of y t / s from the quotient of a t by s, where a = y + k s
pub floor_shifted : (y : ℤ) (a k s t : ℕ) → 0 < s → pos a ≡ y +ℤ pos (k * s) → floor_over (y *ℤ pos t) s ≡ pos ((a * t) / s) -ℤ pos (k * t)
floor_shifted y a k s t h e =
    let q = (a * t) / s in
    let at : pos (a * t) ≡ y *ℤ pos t +ℤ pos (k * s * t) = ap (λ (z : ℤ). z *ℤ pos t) e ∙ add-mul_ℤ y (pos (k * s)) (pos t) in
    let gs : (pos q -ℤ pos (k * t)) *ℤ pos s +ℤ pos (k * t * s) ≡ pos (q * s) = back_again q (k * t) s in
    between_floors (floor_over (y *ℤ pos t) s) (pos q -ℤ pos (k * t)) s
    (omega (arith, ints, at, gs, floor_over-le (y *ℤ pos t) s h, lt-div-mul-add {a = a * t} h))
    (omega (arith, ints, at, gs, lt-floor_over (y *ℤ pos t) s h, div-mul-le_self (a * t) s))
  where
    back_again : (q k s : ℕ) → (pos q -ℤ pos k) *ℤ pos s +ℤ pos (k * s) ≡ pos (q * s)
    back_again q k s = again (pos q -ℤ pos k) q k s (omega (arith, ints))
      where
        again : (d : ℤ) (q k s : ℕ) → d +ℤ pos k ≡ pos q → d *ℤ pos s +ℤ pos (k * s) ≡ pos (q * s)
        again d q k s e = sym (add-mul_ℤ d (pos k) (pos s)) ∙ ap (λ (z : ℤ). z *ℤ pos s) e

-- a greater divisor makes the floor of a number that is not negative no greater, and of one that is not positive no less
quotients_fall : (a b c : ℕ) → 0 < b → b ≤ c → a / c ≤ a / b
quotients_fall a b c h k = le-div (a / c) a b h (le_trans (mul-le-mul_left (a / c) k) (div-mul-le_self a c))

pub floors_fall : (z : ℤ) (b c : ℕ) → 0 < b → b ≤ c → pos 0 ≤ℤ z → floor_over z c ≤ℤ floor_over z b
floors_fall (pos a) b c h k n = omega (arith, ints, quotients_fall a b c h k)
floors_fall (negsuc a) b c h k n = absurd (omega (arith, ints, n))

pub floors_rise : (z : ℤ) (b c : ℕ) → 0 < b → b ≤ c → z ≤ℤ pos 0 → floor_over z b ≤ℤ floor_over z c
floors_rise (pos a) b c h k n = let e : a ≡ 0 = omega (arith, ints, n) in rw (e, zero-div b, zero-div c) (omega (arith, ints))
floors_rise (negsuc a) b c h k n = omega (arith, ints, quotients_fall a b c h k)
