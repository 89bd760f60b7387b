-- Squares of the values between two ends.
use Rattle.std.proofs.Common.{◌≡◌, ℕ, suc, ◌*◌, ◌<◌, ◌≤◌, ℤ, pos, negsuc, ◌*ℤ◌, ◌≤ℤ◌, unsigned_abs, arith, refl, inl, inr}
use Rattle.std.specs.Int.{int_max}
use Rattle.std.proofs.lemmas.Int.{ints, clamps}
use Rattle.std.proofs.lemmas.Bool.{cases_lt}
use Rattle.std.proofs.Math.Nat.{mul-le-mul, mul-le-mul_left, mul-le-mul_right, zero-div}
use Rattle.log_laws.specs.Whole.{floor_over}
use Rattle.log_laws.proofs.Exports.{mul-le_ℤ, floor_over-le, ≤ℤ_trans, scale_scale}
use Rattle.fix_interval.specs.Extremes.{nearest_to_zero}

-- the nearest of the ends to 0, scaled, is no farther from 0 than a number between them
near : (lo hi x : ℤ) (q : ℕ) → (lo *ℤ pos q) ≤ℤ x → x ≤ℤ (hi *ℤ pos q) → unsigned_abs (nearest_to_zero lo hi) * q ≤ unsigned_abs x
near (pos a) hi x q h k =
    let e : nearest_to_zero (pos a) hi ≡ pos a = omega (arith, ints, clamps) in
    rw e (omega (arith, ints))
near (negsuc a) (pos b) x q h k =
    let e : nearest_to_zero (negsuc a) (pos b) ≡ pos 0 = omega (arith, ints, clamps) in
    rw e (omega arith)
near (negsuc a) (negsuc b) x q h k =
    let e : unsigned_abs (nearest_to_zero (negsuc a) (negsuc b)) ≤ suc b = omega (arith, ints, clamps) in
    let f : suc b * q ≤ unsigned_abs x = omega (arith, ints) in
    omega (arith, f, mul-le-mul_right q e)

square_is : (z : ℤ) → z *ℤ z ≡ pos (unsigned_abs z * unsigned_abs z)
square_is (pos a) = refl
square_is (negsuc a) = refl

pub square_low : (lo hi x : ℤ) (q k : ℕ) → 0 < k → (lo *ℤ pos q) ≤ℤ x → x ≤ℤ (hi *ℤ pos q) →
    (floor_over (nearest_to_zero lo hi *ℤ nearest_to_zero lo hi) k *ℤ pos (k * (q * q))) ≤ℤ (x *ℤ x)
square_low lo hi x q k z h g =
    let n : ℤ = nearest_to_zero lo hi in
    let a : ℕ = unsigned_abs n in
    let c : ℕ = unsigned_abs x in
    let f : (a * q) * (a * q) ≤ c * c = mul-le-mul (near lo hi x q h g) (near lo hi x q h g) in
    let e : ((n *ℤ n) *ℤ pos (q * q)) ≤ℤ (x *ℤ x) = rw (square_is n, square_is x) (omega (arith, ints, f)) in
    ≤ℤ_trans (floor_over (n *ℤ n) k *ℤ pos (k * (q * q))) ((n *ℤ n) *ℤ pos (q * q)) (x *ℤ x)
    (rw (← scale_scale (floor_over (n *ℤ n) k) k (q * q)) (mul-le_ℤ (floor_over (n *ℤ n) k *ℤ pos k) (n *ℤ n) (q * q) (floor_over-le (n *ℤ n) k z)))
    e

-- the product of two numbers is at most the greater of their squares
pub mul-le-squares : (a b : ℤ) → (a *ℤ b) ≤ℤ int_max (a *ℤ a) (b *ℤ b)
mul-le-squares (pos a) (pos b) =
    elim (cases_lt a b) [
      | inl l ↦ omega (arith, ints, clamps, mul-le-mul_right b l)
      | inr l ↦ omega (arith, ints, clamps, mul-le-mul_left a l)
    ]
mul-le-squares (pos a) (negsuc b) = omega (arith, ints, clamps)
mul-le-squares (negsuc a) (pos b) = omega (arith, ints, clamps)
mul-le-squares (negsuc a) (negsuc b) =
    elim (cases_lt a b) [
      | inl l ↦ omega (arith, ints, clamps, mul-le-mul_right (suc b) l)
      | inr l ↦ omega (arith, ints, clamps, mul-le-mul_left (suc a) l)
    ]

-- the least square is at most the greatest
pub least-le-greatest_square : (lo hi : ℤ) → (nearest_to_zero lo hi *ℤ nearest_to_zero lo hi) ≤ℤ int_max (lo *ℤ lo) (hi *ℤ hi)
least-le-greatest_square (pos a) hi =
    let e : nearest_to_zero (pos a) hi ≡ pos a = omega (arith, ints, clamps) in
    rw e (omega (arith, ints, clamps))
least-le-greatest_square (negsuc a) (pos b) =
    let e : nearest_to_zero (negsuc a) (pos b) ≡ pos 0 = omega (arith, ints, clamps) in
    rw e (omega (arith, ints, clamps))
least-le-greatest_square (negsuc a) (negsuc b) =
    elim (cases_lt a b) [
      | inl l ↦ let e : nearest_to_zero (negsuc a) (negsuc b) ≡ negsuc a = omega (arith, ints, clamps) in
          rw e (omega (arith, ints, clamps))
      | inr l ↦ let e : nearest_to_zero (negsuc a) (negsuc b) ≡ negsuc b = omega (arith, ints, clamps) in
          rw e (omega (arith, ints, clamps))
    ]

-- between ends on both sides of 0 the least square is 0
pub floor_square_zero : (lo hi : ℤ) (k : ℕ) → lo ≤ℤ pos 0 → pos 0 ≤ℤ hi →
    floor_over (nearest_to_zero lo hi *ℤ nearest_to_zero lo hi) k ≡ pos 0
floor_square_zero lo hi k h g =
    let e : nearest_to_zero lo hi ≡ pos 0 = omega (arith, ints, clamps) in
    rw (e, zero-div k)
