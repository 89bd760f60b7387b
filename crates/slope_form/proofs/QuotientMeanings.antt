-- Quotients of forms mean those of a log sum over a fraction.
use Rattle.std.proofs.Common.{ℕ, ◌^◌, ◌≡◌, sym, subst, arith, pos, ◌-ℤ◌, ◌≤ℤ◌, Option, Some}
use Rattle.std.proofs.lemmas.Int.{ints}
use Rattle.log_laws.specs.Between.{Ends, IsBetween}
use Rattle.log_laws.specs.Fraction.{Fraction, inverse}
use Rattle.log_laws.specs.Interval.{ends}
use Rattle.log_laws.specs.LogSum.{LogSum, scaled, constant}
use Rattle.slope_form.specs.Arithmetic.{difference_of_ends, product_of_ends, quotient_of_ends, both}
use Rattle.slope_form.specs.Forms.{Form, slope_of, quotient_slope, quotient_form}
use Rattle.slope_form.specs.Meaning.{Steps, IsIn, Means, bits_of}
use Rattle.slope_form.proofs.Capped.{IsCapped, both_some, each_some, form_from_some}
use Rattle.slope_form.proofs.Meanings.{IsForm, in_same, moves_of, same_ends, sloped}
use Rattle.slope_form.proofs.Rules.{quotient_moves}
use Rattle.slope_form.proofs.Spans.{between_bits, difference_some, fraction_in, in_scaled, number_over, positive_between, product_some, product_span, quotient_some, quotient_span, slope_over, times_slope}

quotient_in : (v w e : Ends) (u : LogSum) (x : Fraction) → v.lo ≤ℤ v.hi → w.lo ≤ℤ w.hi → quotient_of_ends v w ≡ Some e → IsIn v u →
    IsBetween w (2 ^ 40) x → IsIn e (scaled (inverse x) u)
quotient_in v w e u x o ow h i b =
    let q = quotient_some v w e h in
    in_same (quotient_span v w) e (scaled (inverse x) u) q.1
    (in_scaled v (quotient_span v w) (inverse x) u (positive_between w x q.0 b).1 o i (λ k l m. number_over v w (bits_of k) x q.0 ow (between_bits v k l m) b))

-- the ends of one slope of a quotient, and that its parts are in order
pub record QuotientEntry (at f g over e : Ends) : Type 0 where
  pub positive : pos 1 ≤ℤ over.lo
  pub ends_are : (e.lo ≤ℤ (quotient_span (ends (f.lo -ℤ (product_span at g).hi) (f.hi -ℤ (product_span at g).lo)) over).lo)
      × ((quotient_span (ends (f.lo -ℤ (product_span at g).hi) (f.hi -ℤ (product_span at g).lo)) over).hi ≤ℤ e.hi)

quotient_entry : (at f g over e : Ends) → quotient_slope (Some at) f g over ≡ Some e → QuotientEntry at f g over e
quotient_entry at f g over e h =
    let a = both_some quotient_of_ends (both difference_of_ends (Some f) (both product_of_ends (Some at) (Some g))) (Some over) e h in
    let b = both_some difference_of_ends (Some f) (both product_of_ends (Some at) (Some g)) a.0 a.2 in
    let over_is : over ≡ a.1 = cc in
    let f_is : f ≡ b.0 = cc in
    let x = product_some at g b.1 b.3 in
    let y = difference_some b.0 b.1 a.0 b.4 in
    let z = quotient_some a.0 a.1 e a.4 in
    made a.0 a.1 b.0 b.1 (sym over_is) (sym f_is) x y z
  where
    made : (t o k p : Ends) → o ≡ over → k ≡ f → IsCapped (product_span at g).lo (product_span at g).hi p →
        IsCapped (k.lo -ℤ p.hi) (k.hi -ℤ p.lo) t →
        (pos 1 ≤ℤ o.lo) × IsCapped (quotient_span t o).lo (quotient_span t o).hi e → QuotientEntry at f g over e
    made t o k p eo ek x y z =
        let lo_is : t.lo ≡ f.lo -ℤ (product_span at g).hi = rw (← ek, ← x.hi_is) y.lo_is in
        let hi_is : t.hi ≡ f.hi -ℤ (product_span at g).lo = rw (← ek, ← x.lo_is) y.hi_is in
        record {
          positive = rw (← eo) z.0;
          ends_are = rw (← lo_is, ← hi_is, ← eo) (same_ends (quotient_span t o).lo (quotient_span t o).hi e z.1);
        }

pub quotient_means : (f g h : Form) (d : Steps) (u v : LogSum) (x y : Fraction) → IsForm f → IsForm g → quotient_form f g ≡ Some h → Means f d u v →
    Means g d (constant x) (constant y) →
    Means h d (scaled (inverse x) u) (scaled (inverse y) v)
unfolding quotient_form
quotient_means f g h d u v x y of og e m n =
    let p = form_from_some (quotient_of_ends f.at g.at) (quotient_of_ends f.over g.over) _ h e in
    let x_at = fraction_in g.at x n.sloped.at in
    let x_over = fraction_in g.over x n.over_centre in
    let y_over = fraction_in g.over y n.over_point in
    let over_positive = (quotient_some f.over g.over h.over p.1).0 in
    let px = positive_between g.over x over_positive x_over in
    let py = positive_between g.over y over_positive y_over in
    let at_in = quotient_in f.at g.at h.at u x of.at og.at p.0 m.sloped.at x_at in
    let at_order = (quotient_some f.at g.at h.at p.0).1 in
    let at_ordered : h.at.lo ≤ℤ h.at.hi = rw (at_order.lo_is, at_order.hi_is) at_order.ordered in
    let k = λ (j : ℕ). product_span h.at (slope_of g j) in
    let t = λ (j : ℕ). ends ((slope_of f j).lo -ℤ (k j).hi) ((slope_of f j).hi -ℤ (k j).lo) in
    let r = λ (j : ℕ). quotient_span (t j) g.over in
    record {
      sloped = sloped h d (scaled (inverse x) u) (scaled (inverse y) v) r at_in
          (λ j l. (quotient_entry h.at (slope_of f j) (slope_of g j) g.over (slope_of h j)
          (subst (λ (a : Option Ends). quotient_slope a (slope_of f j) (slope_of g j) g.over ≡ Some (slope_of h j)) p.0
          (each_some (λ j. quotient_slope (quotient_of_ends f.at g.at) (slope_of f j) (slope_of g j) g.over) h.by p.2 j l))).ends_are)
          (quotient_moves u v x y h.at k r px py at_in (moves_of f d u v of m.sloped) (moves_of g d (constant x) (constant y) og n.sloped)
          (record {
            low = λ j l s b. times_slope h.at (slope_of g j) (bits_of h.at.lo) s (between_bits h.at h.at.lo (omega (arith, ints)) at_ordered) b;
            high = λ j l s b. times_slope h.at (slope_of g j) (bits_of h.at.hi) s (between_bits h.at h.at.hi at_ordered (omega (arith, ints))) b;
          })
          (λ j l s b. slope_over (t j) g.over s y over_positive og.over b y_over));
      over_centre = quotient_in f.over g.over h.over u x of.over og.over p.1 m.over_centre x_over;
      over_point = quotient_in f.over g.over h.over v y of.over og.over p.1 m.over_point y_over;
    }
