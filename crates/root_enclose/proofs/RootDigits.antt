-- The digits of a root make the root.
use Rattle.std.proofs.Common.{◌≡◌, ℕ, zero, suc, ◌+◌, ◌*◌, ◌/◌, ◌%◌, ◌^◌, ◌<◌, ◌≤◌, true, false, nat_le, arith, inl, inr}
use Rattle.std.proofs.Math.Nat.{pow-suc, mul-le-mul}
use Rattle.std.proofs.lemmas.Bool.{cases_lt}
use Rattle.log_laws.specs.Roots.{root_digits, with_digit, floor_root}

-- r is the root of n, rounded down
pub record IsFloorRoot (r n : ℕ) : Type 0 where
  pub square : r * r ≤ n
  pub next : n < (r + 1) * (r + 1)

-- one digit more
digit_step : (n q s r : ℕ) → n ≡ 4 * q + s → s < 4 → IsFloorRoot r q → IsFloorRoot (with_digit n (2 * r)) n
unfolding with_digit
digit_step n q s r e l h =
    elim (cases_lt n ((2 * r + 1) * (2 * r + 1))) [
      | inl below ↦ let b : nat_le ((2 * r + 1) * (2 * r + 1)) n ≡ false = grind (arith, below) in
          rw b (record { square = omega (arith, h.square); next = below })
      | inr above ↦ let b : nat_le ((2 * r + 1) * (2 * r + 1)) n ≡ true = grind (arith, above) in
          rw b (record { square = above; next = omega (arith, h.next) })
    ]

digits_make_root : (k n : ℕ) → n < 4 ^ k → IsFloorRoot (root_digits k n) n
unfolding root_digits
digits_make_root zero n h = record { square = omega (arith, h); next = omega (arith, h) }
digits_make_root (suc k) n h =
    let power : 4 ^ suc k ≡ 4 ^ k * 4 = pow-suc 4 k in
    digit_step n (n / 4) (n % 4) (root_digits k (n / 4)) (omega arith) (omega arith) (digits_make_root k (n / 4) (omega (arith, h, power)))

pub floor_root_is : (n : ℕ) → n < 2 ^ 128 → IsFloorRoot (floor_root n) n
floor_root_is n h = digits_make_root 64 n h

-- no number is below another with the same rounded root
not_below : (r s n : ℕ) → n < (r + 1) * (r + 1) → s * s ≤ n → s ≤ r
not_below r s n h k =
    elim (cases_lt r s) [
      | inl l ↦ absurd (omega (arith, h, k, mul-le-mul l l))
      | inr l ↦ l
    ]

pub same_root : (r s n : ℕ) → IsFloorRoot r n → IsFloorRoot s n → r ≡ s
same_root r s n h k =
    let a : r ≤ s = not_below s r n k.next h.square in
    let b : s ≤ r = not_below r s n h.next k.square in
    omega arith
