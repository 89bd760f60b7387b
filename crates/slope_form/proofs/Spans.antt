-- Fractions between the ends of products and quotients in 2^-40, and log sums between ends.
use Rattle.std.specs.Int.{int_min, int_max}
use Rattle.std.proofs.Common.{ℕ, ◌*◌, ◌^◌, ◌<◌, ◌≡◌, refl, sym, subst, arith, lit<, ℤ, pos, neg_ℤ, ◌+ℤ◌, ◌-ℤ◌, ◌*ℤ◌, ◌≤ℤ◌, Some}
use Rattle.std.proofs.Math.IntN.{neg_ℤ-neg_ℤ}
use Rattle.std.proofs.lemmas.Int.{ints}
use borrow.Author.Differences.{up}
use Rattle.log_laws.specs.Between.{Ends, IsBetween}
use Rattle.log_laws.specs.Fraction.{Fraction, IsFraction, negated, product_of, inverse}
use Rattle.log_laws.specs.Interval.{ends}
use Rattle.log_laws.specs.LogSum.{LogSum, AtLeast, AtMost, IsPositive, scaled, opposite, added, constant}
use Rattle.log_laws.specs.Whole.{floor_over, ceil_over, floor_div, ceil_div}
use Rattle.log_laws.proofs.Exports.{at_least_adds_at, at_least_constant, at_least_lowers, at_most_adds_at, at_most_is_opposite, constant_at_least, dens_of, fraction_is, mul-le_ℤ, neg-mul, product_of_comm, scaled-opposite}
use Rattle.fix_interval.specs.Extremes.{least_of_four, greatest_of_four}
use Rattle.fix_interval.proofs.Exports.{IsBetween-negated, IsBetween-product_of, IsBetween-quotient_of}
use Rattle.slope_form.specs.Arithmetic.{capped, sum_of_ends, difference_of_ends, product_of_ends, quotient_of_ends}
use Rattle.slope_form.specs.Meaning.{IsIn, bits_of}
use Rattle.slope_form.proofs.Capped.{IsCapped, capped_some, not_below_one}
use Rattle.slope_form.proofs.Rules.{in_turned}
use Rattle.slope_form.proofs.Slopes.{turned_ends}
use Rattle.slope_form.proofs.XLogXSlopes.{end_of}

-- ---- ends that aren't capped
abbrev pub product_span : Ends → Ends → Ends
product_span v w =
    ends (floor_over (least_of_four (v.lo *ℤ w.lo) (v.lo *ℤ w.hi) (v.hi *ℤ w.lo) (v.hi *ℤ w.hi)) (2 ^ 40))
    (ceil_over (greatest_of_four (v.lo *ℤ w.lo) (v.lo *ℤ w.hi) (v.hi *ℤ w.lo) (v.hi *ℤ w.hi)) (2 ^ 40))

abbrev pub quotient_span : Ends → Ends → Ends
quotient_span v w =
    ends (int_min (floor_div (v.lo *ℤ pos (2 ^ 40)) w.lo) (floor_div (v.lo *ℤ pos (2 ^ 40)) w.hi))
    (int_max (ceil_div (v.hi *ℤ pos (2 ^ 40)) w.lo) (ceil_div (v.hi *ℤ pos (2 ^ 40)) w.hi))

pub sum_some : (v w e : Ends) → sum_of_ends v w ≡ Some e → IsCapped (v.lo +ℤ w.lo) (v.hi +ℤ w.hi) e
unfolding sum_of_ends
sum_some v w e h = capped_some (v.lo +ℤ w.lo) (v.hi +ℤ w.hi) e h

pub difference_some : (v w e : Ends) → difference_of_ends v w ≡ Some e → IsCapped (v.lo -ℤ w.hi) (v.hi -ℤ w.lo) e
unfolding difference_of_ends
difference_some v w e h = capped_some (v.lo -ℤ w.hi) (v.hi -ℤ w.lo) e h

pub product_some : (v w e : Ends) → product_of_ends v w ≡ Some e → IsCapped (product_span v w).lo (product_span v w).hi e
unfolding product_of_ends
product_some v w e h = capped_some (product_span v w).lo (product_span v w).hi e h

pub quotient_some : (v w e : Ends) → quotient_of_ends v w ≡ Some e → (pos 1 ≤ℤ w.lo) × IsCapped (quotient_span v w).lo (quotient_span v w).hi e
unfolding quotient_of_ends
quotient_some v w e h =
    let n = not_below_one w.lo (capped (quotient_span v w).lo (quotient_span v w).hi) e h in
    (n.0, capped_some (quotient_span v w).lo (quotient_span v w).hi e n.1)

-- ---- fractions between ends
pub between_bits : (e : Ends) (k : ℤ) → e.lo ≤ℤ k → k ≤ℤ e.hi → IsBetween e (2 ^ 40) (bits_of k)
between_bits e k l h = record { is_fraction = lit< tt; above = mul-le_ℤ e.lo k (2 ^ 40) l; below = mul-le_ℤ k e.hi (2 ^ 40) h }

-- a slope times a number, and a number times a slope
pub slope_times : (v w : Ends) (s c : Fraction) → IsBetween v 1 s → IsBetween w (2 ^ 40) c → IsBetween (product_span v w) 1 (product_of s c)
slope_times v w s c h k = IsBetween-product_of v w (2 ^ 40) s c 1 (2 ^ 40) 1 (lit< tt) (omega arith) h k

pub times_slope : (v w : Ends) (c s : Fraction) → IsBetween v (2 ^ 40) c → IsBetween w 1 s → IsBetween (product_span v w) 1 (product_of s c)
times_slope v w c s h k = subst (IsBetween (product_span v w) 1) (product_of_comm c s)
    (IsBetween-product_of v w (2 ^ 40) c s (2 ^ 40) 1 1 (lit< tt) (omega arith) h k)

pub number_times : (v w : Ends) (c e : Fraction) → IsBetween v (2 ^ 40) c → IsBetween w (2 ^ 40) e →
    IsBetween (product_span v w) (2 ^ 40) (product_of c e)
number_times v w c e h k = IsBetween-product_of v w (2 ^ 40) c e (2 ^ 40) (2 ^ 40) (2 ^ 40) (lit< tt) refl h k

pub slope_over : (v w : Ends) (s y : Fraction) → pos 1 ≤ℤ w.lo → w.lo ≤ℤ w.hi → IsBetween v 1 s → IsBetween w (2 ^ 40) y →
    IsBetween (quotient_span v w) 1 (product_of s (inverse y))
slope_over v w s y l o h k = IsBetween-quotient_of v w (2 ^ 40) s y 1 (2 ^ 40) 1 l o (omega arith) h k

pub number_over : (v w : Ends) (c y : Fraction) → pos 1 ≤ℤ w.lo → w.lo ≤ℤ w.hi → IsBetween v (2 ^ 40) c → IsBetween w (2 ^ 40) y →
    IsBetween (quotient_span v w) (2 ^ 40) (product_of c (inverse y))
number_over v w c y l o h k = IsBetween-quotient_of v w (2 ^ 40) c y (2 ^ 40) (2 ^ 40) (2 ^ 40) l o refl h k

pub positive_between : (w : Ends) (y : Fraction) → pos 1 ≤ℤ w.lo → IsBetween w (2 ^ 40) y → IsPositive y
positive_between w y l k = (k.is_fraction, made w.lo y.num y.den k.is_fraction l k.above)
  where
    made : (a z : ℤ) (d : ℕ) → 0 < d → pos 1 ≤ℤ a → (a *ℤ pos d) ≤ℤ (z *ℤ pos (2 ^ 40)) → 0 < up z
    made a z d p l h = omega (arith, ints, mul-le_ℤ (pos 1) a d l, h)

-- ---- log sums between ends
-- what is known of a result, from a span of the same ends
pub in_lower : (e : Ends) (w : LogSum) (q : Fraction) → IsBetween e (2 ^ 40) q → AtLeast w q → AtLeast w (bits_of e.lo)
in_lower e w q b x = at_least_lowers w q (bits_of e.lo) (lit< tt) b.above x

pub in_upper : (e : Ends) (w : LogSum) (q : Fraction) → IsBetween e (2 ^ 40) (negated q) → AtLeast (opposite w) q → AtMost w (bits_of e.hi)
in_upper e w q b x =
    (at_most_is_opposite w (bits_of e.hi)).1
    (in_lower (turned_ends e) (opposite w) q
    (subst (IsBetween (turned_ends e) (2 ^ 40)) (fraction_is (neg_ℤ (neg_ℤ q.num)) q.num q.den q.den (neg_ℤ-neg_ℤ q.num) refl) (IsBetween-negated e (2 ^ 40) (negated q) b)) x)

-- where each number k between v's ends, times x, lies between e
pub in_scaled : (v e : Ends) (x : Fraction) (u : LogSum) → IsFraction x → v.lo ≤ℤ v.hi → IsIn v u →
    ((k : ℤ) → v.lo ≤ℤ k → k ≤ℤ v.hi → IsBetween e (2 ^ 40) (product_of (bits_of k) x)) → IsIn e (scaled x u)
in_scaled v e x u px o i h =
    let a = end_of x u v px o i in
    let b = end_of x (opposite u) (turned_ends v) px (omega (arith, ints)) (in_turned v u i) in
    let l = b.1 in
    let m = b.2 in
    let k = h (neg_ℤ b.0) (omega (arith, ints, l, m)) (omega (arith, ints, l, m)) in
    record {
      at_least = in_lower e (scaled x u) (product_of (bits_of a.0) x) (h a.0 a.1 a.2) a.3;
      at_most = in_upper e (scaled x u) (product_of (bits_of b.0) x)
          (subst (IsBetween e (2 ^ 40)) (fraction_is (neg_ℤ b.0 *ℤ x.num) (neg_ℤ (b.0 *ℤ x.num)) (2 ^ 40 * x.den) (2 ^ 40 * x.den) (neg-mul b.0 x.num) refl) k)
          (subst (λ (s : LogSum). AtLeast s (product_of (bits_of b.0) x)) (scaled-opposite x u) b.3);
    }

pub in_added : (v w e : Ends) (s t : LogSum) → IsIn v s → IsIn w t → e.lo ≡ v.lo +ℤ w.lo → e.hi ≡ v.hi +ℤ w.hi → IsIn e (added s t)
in_added v w e s t i j p q = record {
  at_least = rw p (at_least_adds_at s t v.lo w.lo (2 ^ 40) (lit< tt) i.at_least j.at_least);
  at_most = rw q (at_most_adds_at s t v.hi w.hi (2 ^ 40) (lit< tt) i.at_most j.at_most);
}

-- a fraction alone
pub fraction_in : (e : Ends) (x : Fraction) → IsIn e (constant x) → IsBetween e (2 ^ 40) x
fraction_in e x i =
    let a = at_least_constant x (bits_of e.lo) i.at_least in
    let b = at_least_constant (negated x) (negated (bits_of e.hi)) ((at_most_is_opposite (constant x) (bits_of e.hi)).0 i.at_most) in
    record {
      is_fraction = (dens_of (constant x) (bits_of e.lo) i.at_least).0;
      above = a;
      below = (let c = rw (neg-mul e.hi (pos x.den), neg-mul x.num (pos (2 ^ 40))) at b in omega (arith, ints, c));
    }

pub in_fraction : (e : Ends) (x : Fraction) → IsBetween e (2 ^ 40) x → IsIn e (constant x)
in_fraction e x b = record {
  at_least = in_lower e (constant x) x b (constant_at_least x b.is_fraction);
  at_most = in_upper e (constant x) (negated x)
      (subst (IsBetween e (2 ^ 40)) (fraction_is x.num (neg_ℤ (neg_ℤ x.num)) x.den x.den (sym (neg_ℤ-neg_ℤ x.num)) refl) b)
      (constant_at_least (negated x) b.is_fraction);
}
