-- No two shares of vapour are right of a sum that never rises.
use Rattle.std.proofs.Common.{ℕ, ◌<◌, ◌≤◌, ◌^◌, ◌≡◌, refl, arith, ℤ, pos, ◌≤ℤ◌, inl, inr}
use Rattle.std.specs.Prelude.{◌<ℤ◌}
use Rattle.std.proofs.lemmas.Bool.{cases_lt}
use Rattle.std.proofs.lemmas.Int.{ints}
use Rattle.rachford_rice.specs.declared.shares.VapourShare.{VapourShare}
use Rattle.rachford_rice.specs.declared.shares.VapourShare.TheVariants.{Inside, AllLiquid, AllVapour}
use Rattle.rachford_rice.specs.Shares.{Brackets, IsShareOf, NeverRises}

-- where the sum is negative it stays so, hence a place where it isn't lies before
not_after : (s : ℕ → ℤ) (v w : ℕ) → NeverRises s → s v <ℤ pos 0 → pos 0 ≤ℤ s w → w ≤ 2 ^ 20 → w < v
not_after s v w falls below above last =
    elim (cases_lt w v) [
      | inl less ↦ less
      | inr more ↦ absurd (let f = falls v w more last in omega (arith, ints, f, below, above))
    ]

same_place : (s : ℕ → ℤ) (a b x y : ℕ) → NeverRises s → Brackets s a b → Brackets s x y → a ≡ x
same_place s a b x y falls p q =
    let e = p.neighbours in
    let f = q.neighbours in
    let l = not_after s b x falls p.below q.not_below (omega (arith, f, q.in_range)) in
    let m = not_after s y a falls q.below p.not_below (omega (arith, e, p.in_range)) in
    omega (arith, e, f, l, m)

pub alone : (s : ℕ → ℤ) (r q : VapourShare) → NeverRises s → IsShareOf s r → IsShareOf s q → q ≡ r
alone s (Inside a b) (Inside x y) falls h g =
    let e : x ≡ a = same_place s x y a b falls g h in
    let f = h.neighbours in
    let j = g.neighbours in
    let i : y ≡ b = omega (arith, e, f, j) in
    rw (e, i) refl
alone s (Inside a b) AllLiquid falls h g =
    absurd (let e = h.neighbours in let n = not_after s 0 a falls g h.not_below (omega (arith, e, h.in_range)) in omega (arith, n))
alone s (Inside a b) AllVapour falls h g =
    absurd (let n = not_after s b (2 ^ 20) falls h.below g (omega arith) in let m = h.in_range in omega (arith, n, m))
alone s AllLiquid (Inside x y) falls h g =
    absurd (let e = g.neighbours in let n = not_after s 0 x falls h g.not_below (omega (arith, e, g.in_range)) in omega (arith, n))
alone s AllLiquid AllLiquid falls h g = refl
alone s AllLiquid AllVapour falls h g = absurd (let n = not_after s 0 (2 ^ 20) falls h g (omega arith) in omega (arith, n))
alone s AllVapour (Inside x y) falls h g =
    absurd (let n = not_after s y (2 ^ 20) falls g.below h (omega arith) in let m = g.in_range in omega (arith, n, m))
alone s AllVapour AllLiquid falls h g = absurd (let n = not_after s 0 (2 ^ 20) falls g h (omega arith) in omega (arith, n))
alone s AllVapour AllVapour falls h g = refl
