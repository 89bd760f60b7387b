-- Products of forms mean those of a log sum and a fraction.
use Rattle.std.proofs.Common.{ℕ, ◌^◌, ◌≡◌, subst, arith, ◌+ℤ◌, ◌≤ℤ◌, Some}
use Rattle.std.proofs.lemmas.Int.{ints}
use Rattle.log_laws.specs.Between.{Ends, IsBetween}
use Rattle.log_laws.specs.Fraction.{Fraction}
use Rattle.log_laws.specs.LogSum.{LogSum, scaled, constant}
use Rattle.log_laws.proofs.Exports.{product_of_comm}
use Rattle.slope_form.specs.Arithmetic.{sum_of_ends, product_of_ends, both}
use Rattle.slope_form.specs.Forms.{Form, slope_of, product_form}
use Rattle.slope_form.specs.Meaning.{Steps, IsIn, Means, bits_of}
use Rattle.slope_form.proofs.Capped.{both_some, each_some, form_from_some}
use Rattle.slope_form.proofs.Meanings.{IsForm, in_same, moves_of, same_ends, sloped}
use Rattle.slope_form.proofs.Rules.{fraction_product_moves, product_moves}
use Rattle.slope_form.proofs.Slopes.{all_added}
use Rattle.slope_form.proofs.Spans.{between_bits, fraction_in, in_scaled, number_times, product_some, product_span, slope_times, sum_some, times_slope}

-- the ends of one slope of a product
product_entry : (f over at g e : Ends) → both sum_of_ends (product_of_ends f over) (product_of_ends at g) ≡ Some e →
    (e.lo ≤ℤ ((product_span f over).lo +ℤ (product_span at g).lo)) × (((product_span f over).hi +ℤ (product_span at g).hi) ≤ℤ e.hi)
product_entry f over at g e h =
    let b = both_some sum_of_ends (product_of_ends f over) (product_of_ends at g) e h in
    let x = product_some f over b.0 b.2 in
    let y = product_some at g b.1 b.3 in
    let z = sum_some b.0 b.1 e b.4 in
    rw (← x.lo_is, ← x.hi_is, ← y.lo_is, ← y.hi_is) (same_ends (b.0.lo +ℤ b.1.lo) (b.0.hi +ℤ b.1.hi) e z)

product_in : (v w e : Ends) (u : LogSum) (x : Fraction) → v.lo ≤ℤ v.hi → product_of_ends v w ≡ Some e → IsIn v u → IsBetween w (2 ^ 40) x →
    IsIn e (scaled x u)
product_in v w e u x o h i b =
    in_same (product_span v w) e (scaled x u) (product_some v w e h)
    (in_scaled v (product_span v w) x u b.is_fraction o i (λ k l m. number_times v w (bits_of k) x (between_bits v k l m) b))

-- of a log sum and a fraction
pub product_means : (f g h : Form) (d : Steps) (u v : LogSum) (x y : Fraction) → IsForm f → IsForm g → product_form f g ≡ Some h → Means f d u v →
    Means g d (constant x) (constant y) →
    Means h d (scaled x u) (scaled y v)
unfolding product_form
product_means f g h d u v x y of og e m n =
    let p = form_from_some (product_of_ends f.at g.at) (product_of_ends f.over g.over) _ h e in
    let x_at = fraction_in g.at x n.sloped.at in
    let x_over = fraction_in g.over x n.over_centre in
    let y_over = fraction_in g.over y n.over_point in
    let r = λ (j : ℕ). product_span (slope_of f j) g.over in
    let q = λ (j : ℕ). product_span f.at (slope_of g j) in
    record {
      sloped = sloped h d (scaled x u) (scaled y v) (all_added r q)
          (product_in f.at g.at h.at u x of.at p.0 m.sloped.at x_at)
          (λ j l. product_entry (slope_of f j) g.over f.at (slope_of g j) (slope_of h j)
          (each_some (λ j. both sum_of_ends (product_of_ends (slope_of f j) g.over) (product_of_ends f.at (slope_of g j))) h.by p.2 j l))
          (product_moves u v x y f.at r q x_over.is_fraction y_over.is_fraction m.sloped.at (moves_of f d u v of m.sloped) (moves_of g d (constant x) (constant y) og n.sloped)
          (λ j l s b. slope_times (slope_of f j) g.over s y b y_over)
          (record {
            low = λ j l s b. times_slope f.at (slope_of g j) (bits_of f.at.lo) s (between_bits f.at f.at.lo (omega (arith, ints)) of.at) b;
            high = λ j l s b. times_slope f.at (slope_of g j) (bits_of f.at.hi) s (between_bits f.at f.at.hi of.at (omega (arith, ints))) b;
          }));
      over_centre = product_in f.over g.over h.over u x of.over p.1 m.over_centre x_over;
      over_point = product_in f.over g.over h.over v y of.over p.1 m.over_point y_over;
    }

-- of a fraction and a log sum
pub turned_in : (v w e : Ends) (u : LogSum) (x : Fraction) → w.lo ≤ℤ w.hi → product_of_ends v w ≡ Some e → IsIn w u → IsBetween v (2 ^ 40) x →
    IsIn e (scaled x u)
turned_in v w e u x o h i b =
    in_same (product_span v w) e (scaled x u) (product_some v w e h)
    (in_scaled w (product_span v w) x u b.is_fraction o i
    (λ k l m. subst (IsBetween (product_span v w) (2 ^ 40)) (product_of_comm x (bits_of k)) (number_times v w x (bits_of k) b (between_bits w k l m))))

pub fraction_product_means : (f g h : Form) (d : Steps) (x y : Fraction) (u v : LogSum) → IsForm f → IsForm g → product_form f g ≡ Some h →
    Means f d (constant x) (constant y) → Means g d u v →
    Means h d (scaled x u) (scaled y v)
unfolding product_form
fraction_product_means f g h d x y u v of og e m n =
    let p = form_from_some (product_of_ends f.at g.at) (product_of_ends f.over g.over) _ h e in
    let x_at = fraction_in f.at x m.sloped.at in
    let x_over = fraction_in f.over x m.over_centre in
    let y_over = fraction_in f.over y m.over_point in
    let r = λ (j : ℕ). product_span (slope_of f j) g.over in
    let q = λ (j : ℕ). product_span f.at (slope_of g j) in
    record {
      sloped = sloped h d (scaled x u) (scaled y v) (all_added r q)
          (turned_in f.at g.at h.at u x og.at p.0 n.sloped.at x_at)
          (λ j l. product_entry (slope_of f j) g.over f.at (slope_of g j) (slope_of h j)
          (each_some (λ j. both sum_of_ends (product_of_ends (slope_of f j) g.over) (product_of_ends f.at (slope_of g j))) h.by p.2 j l))
          (fraction_product_moves x y u v g.over r q x_over.is_fraction y_over.is_fraction n.over_point (moves_of f d (constant x) (constant y) of m.sloped) (moves_of g d u v og n.sloped)
          (record {
            low = λ j l s b. slope_times (slope_of f j) g.over s (bits_of g.over.lo) b (between_bits g.over g.over.lo (omega (arith, ints)) og.over);
            high = λ j l s b. slope_times (slope_of f j) g.over s (bits_of g.over.hi) b (between_bits g.over g.over.hi og.over (omega (arith, ints)));
          })
          (λ j l s b. times_slope f.at (slope_of g j) x s x_at b));
      over_centre = turned_in f.over g.over h.over u x og.over p.1 n.over_centre x_over;
      over_point = turned_in f.over g.over h.over v y og.over p.1 n.over_point y_over;
    }
