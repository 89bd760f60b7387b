-- How a logarithm rises, by the laws of the logarithm of 1 + d: a mean value between the ends of e over the range.
use Rattle.std.proofs.Common.{ℕ, ◌+◌, ◌*◌, ◌^◌, ◌≤◌, ◌<◌, ◌≡◌, refl, sym, ap, subst, ◌∙◌, arith, lit<, inl, inr, ◌≤ℤ◌, ℤ, pos, neg_ℤ, ◌+ℤ◌, ◌-ℤ◌, ◌*ℤ◌}
use Rattle.std.proofs.lemmas.Bool.{cases_lt}
use Rattle.std.proofs.lemmas.Int.{ints}
use borrow.Author.Differences.{up, down, product_is}
use Rattle.log_laws.specs.Between.{Ends, IsBetween}
use Rattle.log_laws.specs.Fraction.{Fraction, IsAtMost, sum_of, negated, difference, product_of, whole, inverse}
use Rattle.log_laws.specs.LogE.{HoldsLogE}
use Rattle.log_laws.specs.LogSum.{LogSum, AtLeast, AtMost, IsPositive, added, opposite, constant, ratio, log_of}
use Rattle.log_laws.specs.Logarithms.{log_of_one_and as the_log, times_end}
use Rattle.log_laws.proofs.Exports.{IsParts, at_least_lowers, at_most_is_opposite, at_most_of_parts, by_ratio, difference_turned, fraction_is, log_of_one_and, log_rule, mul-neg, opposite-added, opposite-opposite, over_den, parts_negated, parts_product, parts_ratio, parts_self, parts_sum, product_pos, turn_rule}
use Rattle.slope_form.specs.Meaning.{Steps, change, bits_of, MeanValue}
use Rattle.slope_form.proofs.Slopes.{Carries, Moves, all_turned, carries_turned, opposite_moves, rises_above, rises_scaled}

-- X/P over Y/Q is 1 + d
step_of : ℕ → ℕ → ℕ → ℕ → Fraction
step_of X P Y Q = over_den (pos (X * Q) -ℤ pos (Y * P)) (Y * P)

step_parts : (X P Y Q : ℕ) → 0 < Y * P → IsParts (step_of X P Y Q) (X * Q) (Y * P) (Y * P)
unfolding step_of
step_parts X P Y Q h = record {
  den_pos = h;
  d_pos = h;
  is = made (up (pos (X * Q) -ℤ pos (Y * P))) (down (pos (X * Q) -ℤ pos (Y * P))) (X * Q) (Y * P) (omega (arith, ints));
}
  where
    made : (u v a b : ℕ) → u + b ≡ v + a → u * b + b * b ≡ v * b + a * b
    made u v a b e = let e' : (u + b) * b ≡ (v + a) * b = ap (λ (n : ℕ). n * b) e in omega arith

one_and_step : (X P Y Q : ℕ) → up (sum_of (whole (pos 1)) (step_of X P Y Q)).num ≡ X * Q
unfolding step_of
one_and_step X P Y Q = ap up (value (X * Q) (Y * P))
  where
    value : (a b : ℕ) → pos (1 * b) +ℤ (pos a -ℤ pos b) *ℤ pos 1 ≡ pos a
    value a b = omega (arith, ints, product_is (pos a -ℤ pos b) (pos 1))

-- from the logarithm of X/P over Y/Q
log_quotient : (X P Y Q : ℕ) (z : ℤ) → 0 < X → 0 < P → 0 < Y → 0 < Q →
    AtMost (the_log (step_of X P Y Q)) (times_end (step_of X P Y Q) z) →
    AtLeast (change (log_of (ratio X P)) (log_of (ratio Y Q))) (negated (times_end (step_of X P Y Q) z))
unfolding step_of
log_quotient X P Y Q z pX pP pY pQ h =
    let d = step_of X P Y Q in
    let a = sum_of (whole (pos 1)) d in
    log_rule X P Y Q a (times_end d z) pX pP pY pQ (numbers (up a.num) (1 * (Y * P)) (one_and_step X P Y Q) (omega arith)) h
  where
    numbers : (n e : ℕ) → n ≡ X * Q → e ≡ Y * P → n * (P * Y) ≡ X * Q * e
    numbers n e p q = rw (p, q) (omega arith)

-- the lesser of e's ends, or the greater, over y, times y - x
pub record LogStep (e : Ends) (x y : Fraction) : Type 0 where
  pub end : ℤ
  pub low : e.lo ≤ℤ end
  pub high : end ≤ℤ e.hi
  pub at_least : AtLeast (change (log_of x) (log_of y)) (product_of (product_of (bits_of end) (inverse y)) (difference y x))

step_value : (X P Y Q : ℕ) (z : ℤ) → 0 < X → 0 < P → 0 < Y → 0 < Q →
    IsAtMost (product_of (product_of (bits_of z) (ratio Q Y)) (difference (ratio Y Q) (ratio X P))) (negated (times_end (step_of X P Y Q) z))
step_value X P Y Q z pX pP pY pQ =
    at_most_of_parts
    (parts_product (parts_product (parts_self z (2 ^ 40) (lit< tt)) (parts_ratio Q Y pY)) (parts_sum (parts_ratio Y Q pQ) (parts_negated (parts_ratio X P pP))))
    (parts_negated (parts_product (step_parts X P Y Q (product_pos Y P pY pP)) (parts_self z (2 ^ 40) (lit< tt))))
    (numbers (up z) (down z) (2 ^ 40) X P Y Q)
  where
    numbers : (u v n X P Y Q : ℕ) →
        ((u * Q + v * 0) * (Y * P + 0 * Q) + (u * 0 + v * Q) * (0 * P + X * Q)) * (Y * P * n) + (X * Q * u + Y * P * v) * (n * Y * (Q * P))
        ≤ (X * Q * v + Y * P * u) * (n * Y * (Q * P)) + ((u * Q + v * 0) * (0 * P + X * Q) + (u * 0 + v * Q) * (Y * P + 0 * Q)) * (Y * P * n)
    numbers u v n X P Y Q = omega arith

log_step_at : (e : Ends) → HoldsLogE e → e.lo ≤ℤ e.hi → (X P Y Q : ℕ) → 0 < X → 0 < P → 0 < Y → 0 < Q → LogStep e (ratio X P) (ratio Y Q)
unfolding step_of
log_step_at e he o X P Y Q pX pP pY pQ = elim (cases_lt (X * Q) (Y * P)) [ inl l ↦ below l | inr l ↦ above l ]
  where
    made : (z : ℤ) → AtMost (the_log (step_of X P Y Q)) (times_end (step_of X P Y Q) z) →
        AtLeast (change (log_of (ratio X P)) (log_of (ratio Y Q))) (product_of (product_of (bits_of z) (ratio Q Y)) (difference (ratio Y Q) (ratio X P)))
    made z h =
        at_least_lowers (change (log_of (ratio X P)) (log_of (ratio Y Q))) (negated (times_end (step_of X P Y Q) z))
        (product_of (product_of (bits_of z) (ratio Q Y)) (difference (ratio Y Q) (ratio X P)))
        (product_pos (2 ^ 40 * Y) (Q * P) (product_pos (2 ^ 40) Y (lit< tt) pY) (product_pos Q P pQ pP))
        (step_value X P Y Q z pX pP pY pQ) (log_quotient X P Y Q z pX pP pY pQ h)

    below : X * Q < Y * P → LogStep e (ratio X P) (ratio Y Q)
    below l = record { end = e.lo; low = omega (arith, ints); high = o; at_least = made e.lo (less (X * Q) (Y * P) l (product_pos X Q pX pQ)) }
      where
        less : (a b : ℕ) → a < b → 0 < a → AtMost (the_log (over_den (pos a -ℤ pos b) b)) (times_end (over_den (pos a -ℤ pos b) b) e.lo)
        less a b l p = (log_of_one_and e he).1 (over_den (pos a -ℤ pos b) b) (omega arith) (omega (arith, ints)) (omega (arith, ints))

    above : Y * P ≤ X * Q → LogStep e (ratio X P) (ratio Y Q)
    above l = record { end = e.hi; low = o; high = omega (arith, ints); at_least = made e.hi (more (X * Q) (Y * P) l (product_pos Y P pY pP)) }
      where
        more : (a b : ℕ) → b ≤ a → 0 < b → AtMost (the_log (over_den (pos a -ℤ pos b) b)) (times_end (over_den (pos a -ℤ pos b) b) e.hi)
        more a b l p = (log_of_one_and e he).0 (over_den (pos a -ℤ pos b) b) p (omega (arith, ints))

pub log_step : (e : Ends) (x y : Fraction) → HoldsLogE e → e.lo ≤ℤ e.hi → IsPositive x → IsPositive y → LogStep e x y
log_step e x y he o px py =
    by_ratio (λ x. LogStep e x y) x px
    (λ X P pX pP. by_ratio (λ y. LogStep e (ratio X P) y) y py (λ Y Q pY pQ. log_step_at e he o X P Y Q pX pP pY pQ))

-- ---- mean values
-- an upper bound, by the opposite
pub as_most : (w : LogSum) (c b : Fraction) → AtLeast (opposite w) (product_of c (negated b)) → AtMost w (product_of c b)
as_most w c b h =
    (at_most_is_opposite w (product_of c b)).1
    (subst (AtLeast (opposite w)) (fraction_is (c.num *ℤ neg_ℤ b.num) (neg_ℤ (c.num *ℤ b.num)) (c.den * b.den) (c.den * b.den) (mul-neg c.num b.num) refl) h)

as_least : (w : LogSum) (c b : Fraction) → AtMost w (product_of c b) → AtLeast (opposite w) (product_of c (negated b))
as_least w c b h =
    subst (AtLeast (opposite w))
    (fraction_is (neg_ℤ (c.num *ℤ b.num)) (c.num *ℤ neg_ℤ b.num) (c.den * b.den) (c.den * b.den) (sym (mul-neg c.num b.num)) refl)
    ((at_most_is_opposite w (product_of c b)).0 h)

pub mean_moves : {s : Ends} {b : Fraction} (u v : LogSum) {f : ℕ → Ends} {d : Steps} (r : ℕ → Ends) →
    ((c : Fraction) → IsBetween s (2 ^ 40) c → Carries c f r) → MeanValue s b u v →
    Moves (constant b) f d → Moves (change u v) r d
mean_moves {s} {b} u v {f} r carry m x = record {
  rises = rises_above (change u v) (rises_scaled (constant b) m.low r m.low_in.is_fraction (carry m.low m.low_in) x) m.at_least;
  falls = rises_above (opposite (change u v))
      (rises_scaled (constant (negated b)) m.high (all_turned r) m.high_in.is_fraction (carries_turned m.high f r (carry m.high m.high_in)) (opposite_moves x)) (as_least (change u v) m.high b m.at_most);
}

-- x less y, as the opposite of y less x
pub turned_change : (u v : LogSum) (q r : Fraction) → q ≡ r → AtLeast (change v u) q → AtLeast (opposite (change u v)) r
turned_change u v q r e h =
    subst (AtLeast (opposite (change u v))) e
    (subst (λ (s : LogSum). AtLeast s q) (sym (opposite-added v (opposite u) ∙ ap (added (opposite v)) (opposite-opposite u)))
    (turn_rule u (opposite v) q h))

-- ---- the logarithm
pub log_mean : (s e : Ends) (x y : Fraction) → HoldsLogE e → e.lo ≤ℤ e.hi → IsPositive x → IsPositive y →
    ((z : ℤ) → e.lo ≤ℤ z → z ≤ℤ e.hi → IsBetween s (2 ^ 40) (product_of (bits_of z) (inverse x)) × IsBetween s (2 ^ 40) (product_of (bits_of z) (inverse y))) →
    MeanValue s (difference y x) (log_of x) (log_of y)
log_mean s e x y he o px py inside =
    let p = log_step e x y he o px py in
    let q = log_step e y x he o py px in
    record {
      low = product_of (bits_of p.end) (inverse y);
      low_in = (inside p.end p.low p.high).1;
      at_least = p.at_least;
      high = product_of (bits_of q.end) (inverse x);
      high_in = (inside q.end q.low q.high).0;
      at_most = as_most (change (log_of x) (log_of y)) (product_of (bits_of q.end) (inverse x)) (difference y x)
          (turned_change (log_of x) (log_of y) (product_of (product_of (bits_of q.end) (inverse x)) (difference x y)) (product_of (product_of (bits_of q.end) (inverse x)) (negated (difference y x)))
          (ap (product_of (product_of (bits_of q.end) (inverse x))) (difference_turned x y)) q.at_least);
    }
