-- How x log x rises: y log y - x log x is (log x + a mean value) times y - x.
use Rattle.std.proofs.Common.{ℕ, ◌+◌, ◌*◌, ◌^◌, ◌≤◌, ◌<◌, ◌≡◌, refl, sym, ap, subst, arith, lit<, inl, inr, ◌≤ℤ◌, ℤ, pos, negsuc, neg_ℤ, ◌+ℤ◌, ◌*ℤ◌}
use Rattle.std.proofs.Math.IntN.{neg_ℤ-neg_ℤ}
use Rattle.std.proofs.lemmas.Int.{ints}
use borrow.Author.Differences.{up, down, sum_is_lem}
use Rattle.log_laws.specs.Between.{Ends, IsBetween}
use Rattle.log_laws.specs.Fraction.{Fraction, IsFraction, IsSame, IsAtMost, sum_of, negated, difference, product_of, whole, inverse}
use Rattle.log_laws.specs.LogE.{HoldsLogE}
use Rattle.log_laws.specs.LogSum.{LogSum, AtLeast, IsPositive, scaled, opposite, constant, times_log, log_of}
use Rattle.log_laws.proofs.Exports.{IsParts, IsSameSum, at_least-same, at_least_adds, at_least_lowers, at_least_scales, at_most_is_opposite, at_most_of_parts, at_most_raises, at_most_scales, difference-restored, difference_den, difference_turned, either_sign, fraction_is, negated-difference, opposite-opposite, parts_inverse, parts_negated, parts_positive, parts_product, parts_respelled, parts_self, parts_sum, product_pos, product_rule, same_of_parts, turned_product_rule}
use Rattle.slope_form.specs.Meaning.{IsIn, change, bits_of, MeanValue}
use Rattle.slope_form.proofs.LogSlopes.{as_most, log_step, turned_change}
use Rattle.slope_form.proofs.Rules.{scaled_high, scaled_low}

times_one : (f : Fraction) → 0 < f.den →
    IsParts (product_of f (whole (pos 1))) (up f.num * 1 + down f.num * 0) (up f.num * 0 + down f.num * 1) (f.den * 1)
times_one f pf = parts_product (parts_self f.num f.den pf) (parts_self (pos 1) 1 (omega arith))

zero_of : (y : Fraction) → IsFraction y → y.num ≡ pos 0 → IsParts y 0 0 y.den
zero_of y py e = record { den_pos = py; d_pos = py; is = rw e refl }

positive_num : (y : Fraction) → IsPositive y → pos 0 ≤ℤ y.num
positive_num y p = made y.num p.1
  where
    made : (z : ℤ) → 0 < up z → pos 0 ≤ℤ z
    made (pos n) h = omega (arith, ints)
    made (negsuc n) h = absurd (omega arith)

zero_times : (f : Fraction) → 0 < f.den → IsSame (product_of f (whole (pos 0))) (whole (pos 0))
zero_times f pf = same_of_parts (parts_product (parts_self f.num f.den pf) (parts_self (pos 0) 1 (omega arith)))
    (parts_self (pos 0) 1 (omega arith)) (none (up f.num) (down f.num) f.den)
  where
    none : (u v d : ℕ) → (u * 0 + v * 0) * 1 + 0 * (d * 1) ≡ 0 * (d * 1) + (u * 0 + v * 0) * 1
    none u v d = omega arith

spelled : (x : Fraction) → IsPositive x → IsSameSum (scaled x (log_of x)) (times_log x x)
spelled x px = record {
  fraction = omega arith;
  rest = zero_times x px.0;
  terms = (record { fraction = px.0; factor = same_of_parts (times_one x px.0) (parts_self x.num x.den px.0) (straight (up x.num) (down x.num) x.den); positive = px; argument = refl }, tt);
}
  where
    straight : (u v d : ℕ) → (u * 1 + v * 0) * d + v * (d * 1) ≡ u * (d * 1) + (u * 0 + v * 1) * d
    straight u v d = omega arith

spelled_opposite : (x : Fraction) → IsPositive x → IsSameSum (opposite (scaled x (log_of x))) (opposite (times_log x x))
spelled_opposite x px = record {
  fraction = omega arith;
  rest = same_of_parts (parts_negated (parts_product (parts_self x.num x.den px.0) (parts_self (pos 0) 1 (omega arith))))
      (parts_negated (parts_self (pos 0) 1 (omega arith))) (none (up x.num) (down x.num) x.den);
  terms = (record { fraction = px.0; factor = same_of_parts (parts_negated (times_one x px.0)) (parts_negated (parts_self x.num x.den px.0)) (straight (up x.num) (down x.num) x.den); positive = px; argument = refl }, tt);
}
  where
    none : (u v d : ℕ) → (u * 0 + v * 0) * 1 + 0 * (d * 1) ≡ 0 * (d * 1) + (u * 0 + v * 0) * 1
    none u v d = omega arith

    straight : (u v d : ℕ) → (u * 0 + v * 1) * d + u * (d * 1) ≡ v * (d * 1) + (u * 1 + v * 0) * d
    straight u v d = omega arith

-- x times the logarithm of x, and y times that of y, as they are written
same_terms : (x y r : Fraction) → IsPositive x → IsPositive y → AtLeast (change (scaled x (log_of x)) (scaled y (log_of y))) r →
    AtLeast (change (times_log x x) (times_log y y)) r
same_terms x y r px py h =
    at_least-same (change (scaled x (log_of x)) (scaled y (log_of y))) (change (times_log x x) (times_log y y)) r
    (record {
      fraction = omega arith;
      rest = same_of_parts (parts_sum (nothing y py.0) (parts_negated (nothing x px.0))) (parts_sum zero_parts (parts_negated zero_parts))
          (none (y.den * 1) (x.den * 1));
      terms = (
        record { fraction = py.0; factor = once y py.0; positive = py; argument = refl },
        (record { fraction = px.0; factor = same_of_parts (parts_negated (times_one x px.0)) (parts_negated (parts_self x.num x.den px.0)) (turned (up x.num) (down x.num) x.den); positive = px; argument = refl }, tt),
      );
    }) h
  where
    zero_parts : IsParts (whole (pos 0)) 0 0 1
    zero_parts = parts_self (pos 0) 1 (omega arith)

    nothing : (f : Fraction) → 0 < f.den → IsParts (product_of f (whole (pos 0))) 0 0 (f.den * 1)
    nothing f pf = parts_respelled (parts_product (parts_self f.num f.den pf) zero_parts) (product_pos f.den 1 pf (omega arith)) (omega arith)

    none : (m n : ℕ) → (0 * n + 0 * m) * (1 * 1) + (0 * 1 + 0 * 1) * (m * n) ≡ (0 * 1 + 0 * 1) * (m * n) + (0 * n + 0 * m) * (1 * 1)
    none m n = omega arith

    times_one : (f : Fraction) → 0 < f.den →
        IsParts (product_of f (whole (pos 1))) (up f.num * 1 + down f.num * 0) (up f.num * 0 + down f.num * 1) (f.den * 1)
    times_one f pf = parts_product (parts_self f.num f.den pf) (parts_self (pos 1) 1 (omega arith))

    turned : (u v d : ℕ) → (u * 0 + v * 1) * d + u * (d * 1) ≡ v * (d * 1) + (u * 1 + v * 0) * d
    turned u v d = omega arith

    once : (f : Fraction) → 0 < f.den → IsSame (product_of f (whole (pos 1))) f
    once f pf = same_of_parts (times_one f pf) (parts_self f.num f.den pf) (straight (up f.num) (down f.num) f.den)
      where
        straight : (u v d : ℕ) → (u * 1 + v * 0) * d + v * (d * 1) ≡ u * (d * 1) + (u * 0 + v * 1) * d
        straight u v d = omega arith

-- the end that b takes
pub end_of : (b : Fraction) (u : LogSum) (l : Ends) → IsFraction b → l.lo ≤ℤ l.hi → IsIn l u →
    (k : ℤ) × (l.lo ≤ℤ k) × (k ≤ℤ l.hi) × AtLeast (scaled b u) (product_of (bits_of k) b)
end_of b u l pb o i =
    elim (either_sign b.num) [
      | inl h ↦ (l.lo, omega (arith, ints), o, scaled_low b u l pb h i)
      | inr h ↦ (l.hi, o, omega (arith, ints), scaled_high b u l pb h i)
    ]

-- y log y - x log x is at least (z + k) * (y - x)
low_value : (x y b : Fraction) (z k : ℤ) → IsPositive y → IsFraction b →
    IsAtMost (product_of (bits_of (z +ℤ k)) b) (sum_of (product_of y (product_of (product_of (bits_of z) (inverse y)) b)) (product_of (bits_of k) b))
low_value x y b z k py pb =
    let xb = parts_self b.num b.den pb in
    let sum_parts : IsParts (bits_of (z +ℤ k)) (up z + up k) (down z + down k) (2 ^ 40) = record {
      den_pos = lit< tt;
      d_pos = lit< tt;
      is = joined (up (z +ℤ k)) (down (z +ℤ k)) (up z) (down z) (up k) (down k) (2 ^ 40) (sum_is_lem z k);
    } in
    at_most_of_parts (parts_product sum_parts xb)
    (parts_sum (parts_product (parts_positive y py) (parts_product (parts_product (parts_self z (2 ^ 40) (lit< tt)) (parts_inverse y py)) xb)) (parts_product (parts_self k (2 ^ 40) (lit< tt)) xb))
    (numbers (up z) (down z) (up k) (down k) (up b.num) (down b.num) b.den (up y.num) y.den (2 ^ 40))
  where
    joined : (a b uz vz uk vk n : ℕ) → a + vz + vk ≡ b + uz + uk → a * n + (vz + vk) * n ≡ b * n + (uz + uk) * n
    joined a b uz vz uk vk n e = let e' : (a + vz + vk) * n ≡ (b + uz + uk) * n = ap (λ (m : ℕ). m * n) e in omega arith

    numbers : (uz vz uk vk ub vb db Y Q n : ℕ) →
        ((uz + uk) * ub + (vz + vk) * vb) * ((Q * ((n * Y) * db)) * (n * db)) + ((Y * ((uz * Q + vz * 0) * vb + (uz * 0 + vz * Q) * ub) + 0 * ((uz * Q + vz * 0) * ub + (uz * 0 + vz * Q) * vb)) * (n * db) + (uk * vb + vk * ub) * (Q * ((n * Y) * db))) * (n * db)
        ≤ ((Y * ((uz * Q + vz * 0) * ub + (uz * 0 + vz * Q) * vb) + 0 * ((uz * Q + vz * 0) * vb + (uz * 0 + vz * Q) * ub)) * (n * db) + (uk * ub + vk * vb) * (Q * ((n * Y) * db))) * (n * db) + ((uz + uk) * vb + (vz + vk) * ub) * ((Q * ((n * Y) * db)) * (n * db))
    numbers uz vz uk vk ub vb db Y Q n = omega arith

-- x log x - y log y is at least (k + z * y / x) * (x - y)
high_value : (x y b : Fraction) (z k : ℤ) → IsPositive x → IsPositive y → IsFraction b →
    IsAtMost (product_of (sum_of (bits_of k) (product_of (bits_of z) (product_of y (inverse x)))) b)
    (sum_of (product_of (bits_of k) b) (product_of y (product_of (product_of (bits_of z) (inverse x)) b)))
high_value x y b z k px py pb =
    let xb = parts_self b.num b.den pb in
    let xz = parts_self z (2 ^ 40) (lit< tt) in
    let xk = parts_self k (2 ^ 40) (lit< tt) in
    at_most_of_parts (parts_product (parts_sum xk (parts_product xz (parts_product (parts_positive y py) (parts_inverse x px)))) xb)
    (parts_sum (parts_product xk xb) (parts_product (parts_positive y py) (parts_product (parts_product xz (parts_inverse x px)) xb)))
    (numbers (up z) (down z) (up k) (down k) (up b.num) (down b.num) b.den (up x.num) x.den (up y.num) y.den (2 ^ 40))
  where
    numbers : (uz vz uk vk ub vb db X R Y Q n : ℕ) →
        ((uk * (n * (Q * X)) + (uz * (Y * R + 0 * 0) + vz * (Y * 0 + 0 * R)) * n) * ub + (vk * (n * (Q * X)) + (uz * (Y * 0 + 0 * R) + vz * (Y * R + 0 * 0)) * n) * vb) * ((n * db) * (Q * ((n * X) * db))) + ((uk * vb + vk * ub) * (Q * ((n * X) * db)) + (Y * ((uz * R + vz * 0) * vb + (uz * 0 + vz * R) * ub) + 0 * ((uz * R + vz * 0) * ub + (uz * 0 + vz * R) * vb)) * (n * db)) * ((n * (n * (Q * X))) * db)
        ≤ ((uk * ub + vk * vb) * (Q * ((n * X) * db)) + (Y * ((uz * R + vz * 0) * ub + (uz * 0 + vz * R) * vb) + 0 * ((uz * R + vz * 0) * vb + (uz * 0 + vz * R) * ub)) * (n * db)) * ((n * (n * (Q * X))) * db) + ((uk * (n * (Q * X)) + (uz * (Y * R + 0 * 0) + vz * (Y * 0 + 0 * R)) * n) * vb + (vk * (n * (Q * X)) + (uz * (Y * 0 + 0 * R) + vz * (Y * R + 0 * 0)) * n) * ub) * ((n * db) * (Q * ((n * X) * db)))
    numbers uz vz uk vk ub vb db X R Y Q n = omega arith

-- the fraction of x log x that a slope is made of, at a positive fraction
pub x_log_x_mean : (s e l : Ends) (x y : Fraction) → HoldsLogE e → e.lo ≤ℤ e.hi → l.lo ≤ℤ l.hi → IsPositive x → IsPositive y → IsIn l (log_of x) →
    ((z k : ℤ) → e.lo ≤ℤ z → z ≤ℤ e.hi → l.lo ≤ℤ k → k ≤ℤ l.hi →
    IsBetween s (2 ^ 40) (bits_of (z +ℤ k)) × IsBetween s (2 ^ 40) (sum_of (bits_of k) (product_of (bits_of z) (product_of y (inverse x))))) →
    MeanValue s (difference y x) (times_log x x) (times_log y y)
x_log_x_mean s e l x y he o ol px py i inside =
    let u = times_log x x in
    let v = times_log y y in
    let b = difference y x in
    let b' = difference x y in
    let pb = difference_den x y px.0 py.0 in
    let pb' = difference_den y x py.0 px.0 in
    let p = log_step e x y he o px py in
    let q = log_step e y x he o py px in
    let m = end_of b (log_of x) l pb ol i in
    let n = end_of b' (log_of x) l pb' ol i in
    let lower = product_of y (product_of (product_of (bits_of p.end) (inverse y)) b) in
    let upper = product_of y (product_of (product_of (bits_of q.end) (inverse x)) b') in
    let c = sum_of (bits_of n.0) (product_of (bits_of q.end) (product_of y (inverse x))) in
    let a1 = at_least_scales y (change (log_of x) (log_of y)) (product_of (product_of (bits_of p.end) (inverse y)) b) py.0
    (not_negative y py) p.at_least in
    let a2 = at_least_adds (scaled y (change (log_of x) (log_of y))) (scaled b (log_of x)) lower (product_of (bits_of m.0) b) a1 m.3 in
    let a3 = product_rule y b x (log_of x) (log_of y) (sum_of lower (product_of (bits_of m.0) b)) py.0 pb px.0
    (negated-difference x y px.0 py.0) a2 in
    let a4 = same_terms x y (sum_of lower (product_of (bits_of m.0) b)) px py a3 in
    let a5 = at_least_lowers (change u v) (sum_of lower (product_of (bits_of m.0) b)) (product_of (bits_of (p.end +ℤ m.0)) b)
    (product_pos (2 ^ 40) b.den (lit< tt) pb)
    (low_value x y b p.end m.0 py pb) a4 in
    let c1 = at_least_scales y (change (log_of y) (log_of x)) (product_of (product_of (bits_of q.end) (inverse x)) b') py.0
    (not_negative y py) q.at_least in
    let c2 = at_least_adds (scaled b' (log_of x)) (scaled y (change (log_of y) (log_of x))) (product_of (bits_of n.0) b') upper n.3 c1 in
    let c3 = turned_product_rule x b' y (log_of y) (log_of x) (sum_of (product_of (bits_of n.0) b') upper) px.0 pb' py.0
    (difference-restored y x py.0 px.0) c2 in
    let c4 = same_terms y x (sum_of (product_of (bits_of n.0) b') upper) py px c3 in
    let c5 = at_least_lowers (change v u) (sum_of (product_of (bits_of n.0) b') upper) (product_of c b')
    (product_pos c.den b'.den (product_pos (2 ^ 40) (2 ^ 40 * (y.den * up x.num)) (lit< tt) (product_pos (2 ^ 40) (y.den * up x.num) (lit< tt) (product_pos y.den (up x.num) py.0 px.1))) pb')
    (high_value x y b' q.end n.0 px py pb') c4 in
    record {
      low = bits_of (p.end +ℤ m.0);
      low_in = (inside p.end m.0 p.low p.high m.1 m.2).0;
      at_least = a5;
      high = c;
      high_in = (inside q.end n.0 q.low q.high n.1 n.2).1;
      at_most = as_most (change u v) c b
          (turned_change u v (product_of c b') (product_of c (negated b)) (ap (product_of c) (difference_turned x y)) c5);
    }
  where
    not_negative : (y : Fraction) → IsPositive y → pos 0 ≤ℤ y.num
    not_negative y p = made y.num p.1
      where
        made : (z : ℤ) → 0 < up z → pos 0 ≤ℤ z
        made (pos n) h = omega (arith, ints)
        made (negsuc n) h = absurd (omega arith)

-- x log x as one term
pub one_term : (x : Fraction) → IsPositive x → (e : Ends) → IsIn e (scaled x (log_of x)) → IsIn e (times_log x x)
one_term x px e i = record {
  at_least = at_least-same (scaled x (log_of x)) (times_log x x) (bits_of e.lo) (spelled x px) i.at_least;
  at_most = (at_most_is_opposite (times_log x x) (bits_of e.hi)).1
      (at_least-same (opposite (scaled x (log_of x))) (opposite (times_log x x)) (negated (bits_of e.hi)) (spelled_opposite x px)
      ((at_most_is_opposite (scaled x (log_of x)) (bits_of e.hi)).0 i.at_most));
}

-- and at a fraction that is 0
nothing_low : (x y : Fraction) (z : ℤ) → IsPositive x → IsFraction y → y.num ≡ pos 0 →
    IsAtMost (product_of (bits_of z) (difference y x)) (negated (product_of x (bits_of z)))
nothing_low x y z px py e =
    at_most_of_parts (parts_product (parts_self z (2 ^ 40) (lit< tt)) (parts_sum (zero_of y py e) (parts_negated (parts_positive x px))))
    (parts_negated (parts_product (parts_positive x px) (parts_self z (2 ^ 40) (lit< tt))))
    (numbers (up z) (down z) (2 ^ 40) (up x.num) x.den y.den)
  where
    numbers : (u v n X R Q : ℕ) →
        (u * (0 * R + 0 * Q) + v * (0 * R + X * Q)) * (R * n) + (X * u + 0 * v) * (n * (Q * R))
        ≤ (X * v + 0 * u) * (n * (Q * R)) + (u * (0 * R + X * Q) + v * (0 * R + 0 * Q)) * (R * n)
    numbers u v n X R Q = omega arith

nothing_high : (x y : Fraction) (z : ℤ) → IsPositive x → IsFraction y → y.num ≡ pos 0 →
    IsAtMost (negated (product_of x (bits_of z))) (product_of (bits_of z) (difference y x))
nothing_high x y z px py e =
    at_most_of_parts (parts_negated (parts_product (parts_positive x px) (parts_self z (2 ^ 40) (lit< tt))))
    (parts_product (parts_self z (2 ^ 40) (lit< tt)) (parts_sum (zero_of y py e) (parts_negated (parts_positive x px))))
    (numbers (up z) (down z) (2 ^ 40) (up x.num) x.den y.den)
  where
    numbers : (u v n X R Q : ℕ) →
        (X * v + 0 * u) * (n * (Q * R)) + (u * (0 * R + X * Q) + v * (0 * R + 0 * Q)) * (R * n)
        ≤ (u * (0 * R + 0 * Q) + v * (0 * R + X * Q)) * (R * n) + (X * u + 0 * v) * (n * (Q * R))
    numbers u v n X R Q = omega arith

pub x_log_x_end : (s l : Ends) (x y : Fraction) → IsPositive x → IsFraction y → y.num ≡ pos 0 → IsIn l (log_of x) →
    IsBetween s (2 ^ 40) (bits_of l.lo) → IsBetween s (2 ^ 40) (bits_of l.hi) →
    MeanValue s (difference y x) (times_log x x) (constant (whole (pos 0)))
x_log_x_end s l x y px py e i lo hi =
    let u = times_log x x in
    let none = constant (whole (pos 0)) in
    let pb = difference_den x y px.0 py in
    let pd = product_pos (2 ^ 40) (difference y x).den (lit< tt) pb in
    let low = at_least-same (scaled x (log_of x)) u (product_of x (bits_of l.lo)) (spelled x px)
    (at_least_scales x (log_of x) (bits_of l.lo) px.0 (positive_num x px) i.at_least) in
    let high = at_most_scales x (log_of x) (bits_of l.hi) px.0 (positive_num x px) i.at_most in
    let high' = at_least-same (opposite (scaled x (log_of x))) (opposite u) (negated (product_of x (bits_of l.hi))) (spelled_opposite x px)
    ((at_most_is_opposite (scaled x (log_of x)) (product_of x (bits_of l.hi))).0 high) in
    let low' = (at_most_is_opposite (opposite u) (negated (product_of x (bits_of l.lo)))).1
    (subst (λ (w : LogSum). AtLeast w (negated (negated (product_of x (bits_of l.lo))))) (sym (opposite-opposite u))
    (subst (AtLeast u) (fraction_is (x.num *ℤ l.lo) (neg_ℤ (neg_ℤ (x.num *ℤ l.lo))) (x.den * 2 ^ 40) (x.den * 2 ^ 40) (sym (neg_ℤ-neg_ℤ (x.num *ℤ l.lo))) refl) low)) in
    record {
      low = bits_of l.hi;
      low_in = hi;
      at_least = at_least_lowers (change u none) (negated (product_of x (bits_of l.hi))) (product_of (bits_of l.hi) (difference y x)) pd
          (nothing_low x y l.hi px py e) high';
      high = bits_of l.lo;
      high_in = lo;
      at_most = at_most_raises (change u none) (negated (product_of x (bits_of l.lo))) (product_of (bits_of l.lo) (difference y x)) pd
          (nothing_high x y l.lo px py e) low';
    }
