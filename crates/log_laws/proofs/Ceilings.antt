-- Quotients of natural numbers rounded down and up.
use Rattle.std.proofs.Common.{ℕ, ◌+◌, ◌-◌, ◌*◌, ◌/◌, ◌<◌, ◌≤◌, pos, arith}
use Rattle.std.proofs.lemmas.Int.{ints}
use Rattle.std.proofs.lemmas.Nat.{le-div}
use Rattle.std.proofs.Math.Nat.{div-lt_iff_lt-mul, div-mul-le_self}
use Rattle.log_laws.specs.Whole.{ceil_quotient}
use Rattle.log_laws.proofs.Ring.{le-ceil_over, ceil_over-pos}

-- the ceiling of a quotient is no less
pub le-ceiling : (n d : ℕ) → 0 < d → n ≤ ceil_quotient n d * d
le-ceiling n d h = let p = rw (ceil_over-pos n d h) at (le-ceil_over (pos n) d h) in omega (arith, ints, p)

pub floor-le-ceiling : (n den : ℕ) → 0 < den → n / den ≤ ceil_quotient n den
floor-le-ceiling n den some = le-div (n / den) (n + (den - 1)) den some (let p = div-mul-le_self n den in omega (arith, p))

-- and no more than what is no less
pub ceiling_at_most : (n d m : ℕ) → 0 < d → n ≤ m * d → ceil_quotient n d ≤ m
ceiling_at_most n d m some h =
    let q : (n + (d - 1)) / d < m + 1 = (div-lt_iff_lt-mul some).1 (omega (arith, h, some)) in omega (arith, q)
