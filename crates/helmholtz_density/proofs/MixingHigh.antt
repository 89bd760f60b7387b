-- The mixing term, x log x, at most: from the logarithm of the greater end, which isn't positive.
use Rattle.std.proofs.Common.{ℕ, zero, suc, ◌+◌, ◌*◌, ◌^◌, ◌≤◌, ◌<◌, ◌≡◌, ◌≢◌, refl, sym, subst, ◌∙◌, arith, lit<, ℤ, pos, negsuc, neg_ℤ, ◌*ℤ◌, ◌≤ℤ◌, inl, inr, slice_index}
use Rattle.std.proofs.Math.Nat.{mul-le-mul_right}
use Rattle.std.proofs.lemmas.Bool.{cases_lt}
use Rattle.std.proofs.lemmas.Int.{ints}
use lib.Count.{count_leading_zeros}
use borrow.Author.Differences.{up, down, at_most_in, le_out, product_is, neg_is}
use Rattle.log_laws.specs.Fraction.{whole, negated, product_of}
use Rattle.log_laws.specs.LogSum.{LogSum, AtMost, times_log, ratio, scaled, constant}
use Rattle.log_laws.specs.Squaring.{up as digits_up, log_up}
use Rattle.log_laws.specs.Whole.{ceil_div}
use Rattle.log_laws.proofs.Exports.{at_most_is_opposite, parts_self, parts_ratio, parts_product, product_pos, le-ceil_over, at_least_scales, fraction_one, lowered, minus_log, at_most_adds_at, at_most_raises, constant_at_most}
use Rattle.log_enclose.proofs.Exports.{log_up_at_most, log_up_power_high}
use Rattle.case_types.specs.Arithmetic.Bounds.{Box, mixing_up}
use Rattle.case_types.specs.Energy.Divisions.{State, moles, bits, mixing_of, mixing, minus_log_of}
use Rattle.case_types.specs.Arithmetic.Holding.{IsInBox}
use Rattle.log_laws.specs.Sums.{int_sum_below, log_sum_below}
use Rattle.pr_params.proofs.Exports.{times_scaled, times_minus_one}
use Rattle.helmholtz_density.proofs.Terms.{mixing_none, mixing_some}

-- ---- the logarithm of a fraction isn't positive
none_at_one : log_up (2 ^ 40) 40 ≡ pos 0
unfolding log_up digits_up count_leading_zeros
none_at_one = refl

log_up_most : (b : ℕ) → 1 ≤ b → b ≤ 2 ^ 40 → log_up b 40 ≤ℤ pos 0
log_up_most b h l = elim (cases_lt b (2 ^ 40)) [
  | inl less ↦ let q = log_up_power_high b 40 40 h (omega (arith, less)) less in omega (arith, ints, q)
  | inr last ↦ let e : b ≡ 2 ^ 40 = omega (arith, l, last) in rw (e, none_at_one) (omega (arith, ints))
]

-- ---- one component
-- x = xn / xd, at least a / 2 ^ 40, times l that is not positive, is at most u
sides : (xn xd a un dn uu du : ℕ) → dn ≡ 0 → a * xd ≤ xn * 2 ^ 40 → du * 2 ^ 40 ≤ uu * 2 ^ 40 + a * un →
    du * (xd * 2 ^ 40) + (xn * dn + 0 * un) * 2 ^ 40 ≤ (xn * un + 0 * dn) * 2 ^ 40 + uu * (xd * 2 ^ 40)
sides xn xd a un dn uu du e h k =
    let h' : a * xd * un ≤ xn * 2 ^ 40 * un = mul-le-mul_right un h in
    let k' : du * 2 ^ 40 * xd ≤ (uu * 2 ^ 40 + a * un) * xd = mul-le-mul_right xd k in
    rw e (omega (arith, h', k'))

-- what the ceiling says of its parts
ceiling_parts : (a : ℕ) (l u : ℤ) → (pos a *ℤ l) ≤ℤ (u *ℤ pos (2 ^ 40)) → l ≤ℤ pos 0 →
    (down (neg_ℤ l) ≡ 0) × (up (neg_ℤ u) * 2 ^ 40 ≤ down (neg_ℤ u) * 2 ^ 40 + a * up (neg_ℤ l))
ceiling_parts a l u h k =
    let q = le_out (pos a *ℤ l) (u *ℤ pos (2 ^ 40)) h in
    let d = nothing l k in (
      rw (neg_is l).1 d,
      rw ((neg_is l).0, (neg_is u).0, (neg_is u).1) (shown a (up l) (down l) (up u) (down u) d (omega (arith, q, product_is (pos a) l, product_is u (pos (2 ^ 40))))),
    )
  where
    nothing : (l : ℤ) → l ≤ℤ pos 0 → up l ≡ 0
    nothing (pos n) h = let q = le_out (pos n) (pos 0) h in omega (arith, q)
    nothing (negsuc n) h = refl

    shown : (a ul dl uu du : ℕ) → ul ≡ 0 → a * ul + du * 2 ^ 40 ≤ uu * 2 ^ 40 + a * dl → du * 2 ^ 40 ≤ uu * 2 ^ 40 + a * dl
    shown a ul dl uu du e h = omega (arith, h)

entropy_most : (xn xd a b : ℕ) (u : ℤ) → 0 < xn → 0 < xd → a * xd ≤ xn * 2 ^ 40 → xn * 2 ^ 40 ≤ b * xd → 1 ≤ b → b ≤ 2 ^ 40 →
    (pos a *ℤ log_up b 40) ≤ℤ (u *ℤ pos (2 ^ 40)) → AtMost (times_log (ratio xn xd) (ratio xn xd)) (bits u)
entropy_most xn xd a b u pxn pxd lo hi some small ceiling =
    let l = log_up b 40 in
    let x = minus_log b (2 ^ 40) xn xd (bits l) pxn pxd hi (log_up_at_most b 40 some (omega (arith, small))) in
    let y = at_least_scales (ratio xn xd) (minus_log_of (ratio xn xd)) (bits (neg_ℤ l)) pxd (at_most_in (pos 0) (pos xn) (omega arith)) x in
    let p = ceiling_parts a l u ceiling (log_up_most b some small) in
    (at_most_is_opposite (times_log (ratio xn xd) (ratio xn xd)) (bits u)).1
    (times_scaled (ratio xn xd) (negated fraction_one) (negated (ratio xn xd)) (ratio xn xd) (bits (neg_ℤ u)) pxd pxd (times_minus_one (ratio xn xd) pxd) (pxd, pxn)
    (lowered (scaled (ratio xn xd) (minus_log_of (ratio xn xd))) (product_of (ratio xn xd) (bits (neg_ℤ l))) (bits (neg_ℤ u))
    (parts_product (parts_ratio xn xd pxd) (parts_self (neg_ℤ l) (2 ^ 40) (lit< tt))) (parts_self (neg_ℤ u) (2 ^ 40) (lit< tt))
    (sides xn xd a (up (neg_ℤ l)) (down (neg_ℤ l)) (down (neg_ℤ u)) (up (neg_ℤ u)) p.0 lo p.1) y))

-- nothing is at most nothing
nothing_most : AtMost (constant (whole (pos 0))) (bits (pos 0))
nothing_most =
    at_most_raises (constant (whole (pos 0))) (whole (pos 0)) (bits (pos 0)) (lit< tt) (at_most_in (pos 0) (pos 0) (omega arith)) (constant_at_most (whole (pos 0)) (lit< tt))

none_up : (b : ℕ) → mixing_up 0 b ≡ pos 0
none_up zero = mixing_none 0 0 refl
none_up (suc b) = mixing_some 0 (suc b) (omega arith) ∙ rw (no_product (log_up (suc b) 40)) refl
  where
    no_product : (z : ℤ) → pos 0 *ℤ z ≡ pos 0
    no_product z = omega (arith, ints)

pub mixing_of_most : (m part a b : ℕ) → 0 < m → a * m ≤ part * 2 ^ 40 → part * 2 ^ 40 ≤ b * m → b ≤ 2 ^ 40 → AtMost (mixing_of part m) (bits (mixing_up a b))
mixing_of_most m zero a b h lo hi small =
    let z : a ≡ 0 = none a (omega (arith, lo)) in
    rw (z, none_up b) nothing_most
  where
    none : (a : ℕ) → a * m ≤ 0 → a ≡ 0
    none zero l = refl
    none (suc a) l = absurd (let q = product_pos (suc a) m (omega arith) h in omega (arith, l, q))
mixing_of_most m (suc n) a b h lo hi small =
    let s = some b hi in
    subst (λ (z : ℤ). AtMost (mixing_of (suc n) m) (bits z)) (sym (mixing_some a b s))
    (entropy_most (suc n) m a b (ceil_div (pos a *ℤ log_up b 40) (pos (2 ^ 40))) (omega arith) h lo hi (omega (arith, s)) small
    (le-ceil_over (pos a *ℤ log_up b 40) (2 ^ 40) (lit< tt)))
  where
    some : (b : ℕ) → suc n * 2 ^ 40 ≤ b * m → b ≢ 0
    some zero l = absurd (omega (arith, l))
    some (suc b) l = omega arith

-- ---- over all components
-- a sum of log sums is at most the sum of their bounds
log_sum_most : (n : ℕ) (s : ℕ → LogSum) (z : ℕ → ℤ) → ((i : ℕ) → i < n → AtMost (s i) (bits (z i))) → AtMost (log_sum_below n s) (bits (int_sum_below n z))
unfolding log_sum_below int_sum_below
log_sum_most zero s z h = nothing_most
log_sum_most (suc n) s z h =
    at_most_adds_at (log_sum_below n s) (s n) (int_sum_below n z) (z n) (2 ^ 40) (lit< tt) (log_sum_most n s z (λ i l. h i (omega (arith, l)))) (h n (omega arith))

pub mixing_most : (n : ℕ) (box : Box) (f : State) → 0 < moles n f → IsInBox n box f → ((i : ℕ) → i < n → slice_index box.hi i ≤ 2 ^ 40) →
    AtMost (mixing n f) (bits (int_sum_below n (λ i. mixing_up (slice_index box.lo i) (slice_index box.hi i))))
mixing_most n box f some inside small =
    log_sum_most n (λ i. mixing_of (f.parts i) (moles n f)) (λ i. mixing_up (slice_index box.lo i) (slice_index box.hi i))
    (λ i l. mixing_of_most (moles n f) (f.parts i) (slice_index box.lo i) (slice_index box.hi i) some (inside.above i l) (inside.below i l) (small i l))
