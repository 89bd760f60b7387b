-- Squares and their order, and the rounded root of a fraction.
use Rattle.std.proofs.Common.{◌≡◌, ◌≢◌, ℕ, ◌+◌, ◌*◌, ◌/◌, ◌^◌, ◌<◌, ◌≤◌, ◌==◌, true, false, arith, inl, inr, lit<}
use Rattle.std.proofs.Math.Nat.{mul-le-mul, mul-le-mul_right, pow-le-pow_right, div-mul-le_self, lt-div-mul-add}
use Rattle.std.proofs.lemmas.Bool.{cases_lt}
use Rattle.log_laws.specs.Roots.{ceiling_from}
use Rattle.root_enclose.proofs.RootDigits.{IsFloorRoot}

-- num * 4 ^ scale below 2 ^ 126 leaves no room for a large scale
pub scale_small : (num scale : ℕ) → 0 < num → num * 4 ^ scale < 2 ^ 126 → scale < 63
scale_small num scale z h =
    elim (cases_lt scale 63) [
      | inl l ↦ l
      | inr l ↦ absurd (omega (arith, h, mul-le-mul z (pow-le-pow_right {n = 4} (lit< tt) {i = 63} {j = scale} l)))
    ]

-- r is the root of n / den, rounded down
pub record IsFloorRootOver (r n den : ℕ) : Type 0 where
  pub square : r * r * den ≤ n
  pub next : n < (r + 1) * (r + 1) * den

pub floor_root_over : (r n den : ℕ) → 0 < den → IsFloorRoot r (n / den) → IsFloorRootOver r n den
floor_root_over r n den z h = record {
  square = omega (arith, div-mul-le_self n den, mul-le-mul_right den h.square);
  next = omega (arith, lt-div-mul-add {a = n} z, mul-le-mul_right den h.next);
}

-- the same, of the numbers that calls gave
pub floor_root_of_calls : (r i s n den : ℕ) → 0 < den → r ≡ i → s ≡ n → i * i ≤ s / den → s / den < (i + 1) * (i + 1) → IsFloorRootOver r n den
floor_root_of_calls r i s n den z e f h k =
    floor_root_over r n den z (rw (e, ← f) (record { square = h; next = k }))

lt_of_square : (a b d : ℕ) → a * a * d < b * b * d → a < b
lt_of_square a b d h =
    elim (cases_lt a b) [
      | inl l ↦ l
      | inr l ↦ absurd (omega (arith, h, mul-le-mul_right d (mul-le-mul l l)))
    ]

-- a root of at most m has its ceiling at most m
pub ceiling_fits : (r n den m : ℕ) → 0 < den → IsFloorRootOver r n den → n ≤ m * m * den → ceiling_from r n den ≤ m
ceiling_fits r n den m z h k =
    elim (cases_lt (r * r * den) n) [
      | inl l ↦ let e : (r * r * den == n) ≡ false = grind (arith, l) in
          let f : r < m = lt_of_square r m den (omega (arith, l, k)) in
          rw e (omega (arith, f))
      | inr l ↦ let e : (r * r * den == n) ≡ true = grind (arith, l, h.square) in
          let f : r < m + 1 = lt_of_square r (m + 1) den (omega (arith, h.square, k, z)) in
          rw e (omega (arith, f))
    ]

-- the ceiling on each branch of the test
pub ceiling_exact : (r n s den k : ℕ) → s ≡ n → r * r * den ≡ s → k ≡ r → k ≡ ceiling_from r n den
ceiling_exact r n s den k e f g =
    let t : (r * r * den == n) ≡ true = grind (arith, e, f) in
    rw t g

pub ceiling_inexact : (r n s den k : ℕ) → s ≡ n → r * r * den ≢ s → k ≡ r + 1 → k ≡ ceiling_from r n den
ceiling_inexact r n s den k e f g =
    let t : (r * r * den == n) ≡ false = grind (arith, e, f) in
    rw t g

pub floor-le-ceiling : (r n den : ℕ) → r ≤ ceiling_from r n den
floor-le-ceiling r n den = grind arith

-- the ceiling is no less than the root
pub ceiling_covers : (r n den : ℕ) → IsFloorRootOver r n den → n ≤ ceiling_from r n den * ceiling_from r n den * den
ceiling_covers r n den h =
    elim (cases_lt (r * r * den) n) [
      | inl l ↦ let e : (r * r * den == n) ≡ false = grind (arith, l) in
          rw e (omega (arith, h.next))
      | inr l ↦ let e : (r * r * den == n) ≡ true = grind (arith, l, h.square) in
          rw e l
    ]
