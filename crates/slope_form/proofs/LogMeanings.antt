-- Logarithms of forms mean those of their fractions.
use Rattle.std.proofs.Common.{ℕ, ◌^◌, ◌≤◌, ◌<◌, ◌≡◌, arith, lit<, ℤ, pos, negsuc, ◌≤ℤ◌, ◌<ℤ◌, unsigned_abs, Some}
use Rattle.std.proofs.lemmas.Int.{ints}
use borrow.Author.Differences.{le_out}
use Rattle.log_laws.specs.Between.{Ends, IsBetween}
use Rattle.log_laws.specs.Fraction.{whole, Fraction}
use Rattle.log_laws.specs.Interval.{ends}
use Rattle.log_laws.specs.LogE.{HoldsLogE}
use Rattle.log_laws.specs.LogSum.{ratio, AtMost, constant, log_of}
use Rattle.log_laws.specs.Squaring.{log_down, log_up}
use Rattle.log_laws.proofs.Exports.{at_least_takes_larger, at_most_is_opposite, by_ratio, fraction_one, minus_log, order_of_ratios}
use Rattle.log_enclose.proofs.Exports.{log_down_at_least, log_up_at_most}
use Rattle.slope_form.specs.Arithmetic.{capped, product_of_ends, quotient_of_ends, log_of_ends, both}
use Rattle.slope_form.specs.Forms.{Form, slope_of, log_form}
use Rattle.slope_form.specs.Meaning.{Steps, IsIn, Means, bits_of}
use Rattle.slope_form.proofs.Capped.{IsCapped, both_some, capped_some, each_some, form_from_some, not_below_one}
use Rattle.slope_form.proofs.LogSlopes.{log_mean, mean_moves}
use Rattle.slope_form.proofs.Meanings.{IsForm, in_same, moves_of, same_ends, sloped}
use Rattle.slope_form.proofs.Spans.{between_bits, fraction_in, number_over, positive_between, product_some, product_span, quotient_some, quotient_span, slope_times}

-- the ends of logarithms of fractions between whole numbers
naturals_in : (n m : ℕ) (x : Fraction) → 1 ≤ n → m < 2 ^ 62 → n ≤ m → IsBetween (ends (pos n) (pos m)) (2 ^ 40) x →
    IsIn (ends (log_down n 40) (log_up m 40)) (log_of x)
naturals_in n m x l s o b =
    let px = positive_between (ends (pos n) (pos m)) x (omega (arith, ints, l)) b in
    record {
      at_least = at_least_takes_larger fraction_one (ratio n (2 ^ 40)) x (constant (whole (pos 0))) (bits_of (log_down n 40))
          (omega (arith, ints)) px b.above
          (log_down_at_least n 40 l (omega (arith, s, o)));
      at_most = by_ratio (λ x. IsBetween (ends (pos n) (pos m)) (2 ^ 40) x → AtMost (log_of x) (bits_of (log_up m 40))) x px
          (λ X P pX pP k. (at_most_is_opposite (log_of (ratio X P)) (bits_of (log_up m 40))).1
          (minus_log m (2 ^ 40) X P (bits_of (log_up m 40)) pX pP (order_of_ratios X P m (2 ^ 40) pP (lit< tt) k.below) (log_up_at_most m 40 (omega (arith, l, o)) s))) b;
    }

-- the ends of logarithms of fractions between ends
pub log_in : (v e : Ends) (x : Fraction) → v.lo ≤ℤ v.hi → v.hi <ℤ pos (2 ^ 62) → log_of_ends v ≡ Some e → IsBetween v (2 ^ 40) x →
    (pos 1 ≤ℤ v.lo) × IsIn e (log_of x)
unfolding log_of_ends
log_in v e x o small h b =
    let n = not_below_one v.lo (capped (log_down (unsigned_abs v.lo) 40) (log_up (unsigned_abs v.hi) 40)) e h in (
      n.0,
      in_same (ends (log_down (unsigned_abs v.lo) 40) (log_up (unsigned_abs v.hi) 40)) e (log_of x)
          (capped_some (log_down (unsigned_abs v.lo) 40) (log_up (unsigned_abs v.hi) 40) e n.1)
          (by_naturals v.lo v.hi n.0 o small b),
    )
  where
    by_naturals : (lo hi : ℤ) → pos 1 ≤ℤ lo → lo ≤ℤ hi → hi <ℤ pos (2 ^ 62) → IsBetween (ends lo hi) (2 ^ 40) x →
        IsIn (ends (log_down (unsigned_abs lo) 40) (log_up (unsigned_abs hi) 40)) (log_of x)
    by_naturals (pos n) (pos m) l o s b = naturals_in n m x (let q = le_out (pos 1) (pos n) l in omega (arith, q)) (omega (arith, ints, s))
        (let q = le_out (pos n) (pos m) o in omega (arith, q)) b
    by_naturals (pos n) (negsuc m) l o s b = absurd (omega (arith, ints, l, o))
    by_naturals (negsuc n) hi l o s b = absurd (omega (arith, ints, l))

pub log_means : (f h : Form) (e : Ends) (d : Steps) (x y : Fraction) → IsForm f → HoldsLogE e → e.lo ≤ℤ e.hi → log_form f e ≡ Some h →
    Means f d (constant x) (constant y) →
    Means h d (log_of x) (log_of y)
unfolding log_form
log_means f h e d x y of he oe q m =
    let p = form_from_some (log_of_ends f.at) (log_of_ends f.over) _ h q in
    let x_at = fraction_in f.at x m.sloped.at in
    let x_over = fraction_in f.over x m.over_centre in
    let y_over = fraction_in f.over y m.over_point in
    let at = log_in f.at h.at x of.at of.at_top p.0 x_at in
    let centre = log_in f.over h.over x of.over of.over_top p.1 x_over in
    let point = log_in f.over h.over y of.over of.over_top p.1 y_over in
    let px = positive_between f.over x centre.0 x_over in
    let py = positive_between f.over y centre.0 y_over in
    let s = quotient_span e f.over in
    let r = λ (j : ℕ). product_span (slope_of f j) s in
    record {
      sloped = sloped h d (log_of x) (log_of y) r at.1
          (λ j l. log_entry (slope_of f j) e f.over (slope_of h j)
          (each_some (λ j. both product_of_ends (Some (slope_of f j)) (quotient_of_ends e f.over)) h.by p.2 j l))
          (mean_moves (log_of x) (log_of y) r (λ c k j l t b. slope_times (slope_of f j) s t c b k)
          (log_mean s e x y he oe px py (λ z l k. (number_over e f.over (bits_of z) x centre.0 of.over (between_bits e z l k) x_over, number_over e f.over (bits_of z) y centre.0 of.over (between_bits e z l k) y_over)))
          (moves_of f d (constant x) (constant y) of m.sloped));
      over_centre = centre.1;
      over_point = point.1;
    }
  where
    log_entry : (f e over h : Ends) → both product_of_ends (Some f) (quotient_of_ends e over) ≡ Some h →
        (h.lo ≤ℤ (product_span f (quotient_span e over)).lo) × ((product_span f (quotient_span e over)).hi ≤ℤ h.hi)
    log_entry f e over h q =
        let a = both_some product_of_ends (Some f) (quotient_of_ends e over) h q in
        let f_is : a.0 ≡ f = cc in
        made a.0 a.1 f_is (quotient_some e over a.1 a.3).1 (product_some a.0 a.1 h a.4)
      where
        made : (k t : Ends) → k ≡ f → IsCapped (quotient_span e over).lo (quotient_span e over).hi t →
            IsCapped (product_span k t).lo (product_span k t).hi h →
            (h.lo ≤ℤ (product_span f (quotient_span e over)).lo) × ((product_span f (quotient_span e over)).hi ≤ℤ h.hi)
        made k t ek x y = rw (← ek, ← x.lo_is, ← x.hi_is) (same_ends (product_span k t).lo (product_span k t).hi h y)
