-- How large the root of the temperature over a critical temperature is.
use Rattle.std.proofs.Common.{ℕ, ◌+◌, ◌-◌, ◌*◌, ◌^◌, ◌<◌, ◌≤◌, Bool, true, false, cond, ◌==◌, arith, inl, inr}
use Rattle.std.proofs.Math.Nat.{mul-le-mul}
use Rattle.std.proofs.lemmas.Bool.{cases_lt}
use Rattle.log_laws.specs.Roots.{ceiling_from}

pub root_small : (r t tc : ℕ) → r * r * tc ≤ t * 2 ^ 96 → 5000 ≤ tc → t ≤ 1500000 → r + 1 < 2 ^ 53
root_small r t tc square low high =
    elim (cases_lt (r + 1) (2 ^ 53)) [
      | inl less ↦ less
      | inr more ↦
          let a : 2 ^ 53 - 1 ≤ r = omega (arith, more) in
          let b = mul-le-mul (mul-le-mul a a) low in absurd (omega (arith, b, square, high))
    ]

pub ceiling_near : (r n den : ℕ) → ceiling_from r n den ≤ r + 1
ceiling_near r n den = near (r * r * den == n)
  where
    near : (b : Bool) → cond b r (r + 1) ≤ r + 1
    near true = omega arith
    near false = omega arith
