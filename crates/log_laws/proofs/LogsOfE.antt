-- The logarithm of 1 + d by that of e.
use Rattle.std.proofs.Common.{ℕ, suc, ◌+◌, ◌-◌, ◌*◌, ◌^◌, ◌<◌, ◌≡◌, refl, sym, ap₂, subst, arith, lit<, ◌≤ℤ◌, ◌<ℤ◌}
use Rattle.std.proofs.lemmas.Int.{ints}
use lib.IntN.{ℤ, pos, negsuc, neg_ℤ, ◌+ℤ◌, ◌*ℤ◌}
use borrow.Author.Differences.{product_is}
use Rattle.log_laws.specs.Fraction.{Fraction, sum_of, whole}
use Rattle.log_laws.specs.LogSum.{AtLeast, AtMost, times_log, ratio}
use Rattle.log_laws.specs.Logarithms.{LogOfOneAnd, log_of_one_and as the_log, times_end}
use Rattle.log_laws.proofs.Ring.{neg-mul}
use Rattle.log_laws.proofs.Terms.{over_den}
use Rattle.log_laws.proofs.Euler.{log_of_one_more, log_of_one_less}

-- 1 + p/q and 1 - p/(r + p)
one_and : (p q : ℕ) → sum_of (whole (pos 1)) (over_den (pos p) q) ≡ ratio (q + p) q
one_and p q = ap₂ (λ (n d : ℕ). ratio n d) {x = 1 * q + p * 1} {y = q + p} {u = 1 * q} {v = q} (omega arith) (omega arith)

one_less : (z : ℤ) (r p q : ℕ) → q ≡ r + p → z ≡ neg_ℤ (pos p) → sum_of (whole (pos 1)) (over_den z q) ≡ ratio r q
one_less z r p q e f =
    let a : (pos 1 *ℤ pos q) +ℤ z *ℤ pos 1 ≡ pos r = rw f (omega (arith, ints, product_is (neg_ℤ (pos p)) (pos 1))) in
    let b : 1 * q ≡ q = omega arith in
    rw (a, b) refl

scaled_end : (z : ℤ) (p c q : ℕ) → z ≡ neg_ℤ (pos p) → times_end (over_den z q) (pos c) ≡ over_den (neg_ℤ (pos (p * c))) (q * 2 ^ 40)
scaled_end z p c q f =
    let a : z *ℤ pos c ≡ neg_ℤ (pos (p * c)) = rw f (neg-mul (pos p) (pos c)) in
    rw a refl

more : (c : ℕ) → AtMost (times_log (whole (pos (2 ^ 24 + 1))) (ratio (2 ^ 24 + 1) (2 ^ 24))) (over_den (pos c) (2 ^ 40)) →
    (p q : ℕ) → 0 < q → AtMost (the_log (over_den (pos p) q)) (times_end (over_den (pos p) q) (pos c))
more c h p q l =
    subst (λ (a : Fraction). AtMost (times_log (whole (pos 1)) a) (over_den (pos (p * c)) (q * 2 ^ 40))) (sym (one_and p q))
    (log_of_one_more p q c (2 ^ 40) (2 ^ 24) l (lit< tt) (lit< tt) h)

less : (c : ℕ) → AtLeast (times_log (whole (pos (2 ^ 24))) (ratio (2 ^ 24 + 1) (2 ^ 24))) (over_den (pos c) (2 ^ 40)) →
    (z : ℤ) (r p q : ℕ) → 0 < r → q ≡ r + p → z ≡ neg_ℤ (pos p) → AtMost (the_log (over_den z q)) (times_end (over_den z q) (pos c))
less c h z r p q l e f =
    rw (one_less z r p q e f, scaled_end z p c q f, e) (log_of_one_less r p c (2 ^ 40) (2 ^ 24) l (lit< tt) (lit< tt) h)

pub log_of_one_and : LogOfOneAnd
log_of_one_and e h = (at_more e.hi h.positive_above h.below, at_less e.lo h.positive h.above)
  where
    at_more : (z : ℤ) → pos 0 <ℤ z → AtMost (times_log (whole (pos (2 ^ 24 + 1))) (ratio (2 ^ 24 + 1) (2 ^ 24))) (over_den z (2 ^ 40)) →
        (d : Fraction) → 0 < d.den → pos 0 ≤ℤ d.num → AtMost (the_log d) (times_end d z)
    at_more (negsuc c) l k d pd s = absurd (omega (arith, ints))
    at_more (pos c) l k d pd s = counted d.num d.den pd s
      where
        counted : (n : ℤ) (q : ℕ) → 0 < q → pos 0 ≤ℤ n → AtMost (the_log (over_den n q)) (times_end (over_den n q) (pos c))
        counted (pos p) q pq s = more c k p q pq
        counted (negsuc p) q pq s = absurd (omega (arith, ints))

    at_less : (z : ℤ) → pos 0 <ℤ z → AtLeast (times_log (whole (pos (2 ^ 24))) (ratio (2 ^ 24 + 1) (2 ^ 24))) (over_den z (2 ^ 40)) →
        (d : Fraction) → 0 < d.den → neg_ℤ (pos d.den) <ℤ d.num → d.num ≤ℤ pos 0 → AtMost (the_log d) (times_end d z)
    at_less (negsuc c) l k d pd a b = absurd (omega (arith, ints))
    at_less (pos c) l k d pd a b = counted d.num d.den pd a b
      where
        counted : (n : ℤ) (q : ℕ) → 0 < q → neg_ℤ (pos q) <ℤ n → n ≤ℤ pos 0 → AtMost (the_log (over_den n q)) (times_end (over_den n q) (pos c))
        counted (pos p) q pq a b = less c k (pos p) q 0 q pq (omega arith) (omega (arith, ints))
        counted (negsuc p) q pq a b = less c k (negsuc p) (q - suc p) (suc p) q (omega (arith, ints)) (omega (arith, ints)) (omega (arith, ints))
