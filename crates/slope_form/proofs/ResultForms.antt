-- What an operation on forms answers is a form: its ends are in order, and none is large.
use Rattle.std.proofs.Common.{ℕ, zero, suc, ◌^◌, ◌<◌, ◌≡◌, arith, ℤ, pos, ◌+ℤ◌, ◌-ℤ◌, ◌≤ℤ◌, ◌<ℤ◌, unsigned_abs, Some}
use Rattle.std.proofs.lemmas.Int.{ints}
use Rattle.log_laws.specs.Between.{Ends}
use Rattle.log_laws.specs.Squaring.{log_down, log_up}
use Rattle.slope_form.specs.Arithmetic.{capped, sum_of_ends, difference_of_ends, product_of_ends, quotient_of_ends, log_of_ends, both}
use Rattle.slope_form.specs.Forms.{Form, slope_of, quotient_slope, sum_form, difference_form, product_form, quotient_form, log_form, constant_form}
use Rattle.slope_form.proofs.Capped.{IsCapped, both_some, capped_some, each_some, form_from_some, not_below_one}
use Rattle.slope_form.proofs.Meanings.{IsForm}
use Rattle.slope_form.proofs.Spans.{difference_some, product_some, product_span, quotient_some, quotient_span, sum_some}

-- ends that are there after an operation
pub record AreThere (e : Ends) : Type 0 where
  pub ordered : e.lo ≤ℤ e.hi
  pub top : e.hi <ℤ pos (2 ^ 62)

there : (lo hi : ℤ) (e : Ends) → IsCapped lo hi e → AreThere e
there lo hi e c =
    let p = c.lo_is in
    let q = c.hi_is in
    let s = c.hi_small in
    record { ordered = rw (p, q) c.ordered; top = rw q (omega (arith, ints, s)) }

form_there : (h : Form) → AreThere h.at → AreThere h.over → ((j : ℕ) → j < 4 → AreThere (slope_of h j)) → IsForm h
form_there h a o b = record { at = a.ordered; over = o.ordered; by = λ j l. (b j l).ordered; at_top = a.top; over_top = o.top }

sum_there : (v w e : Ends) → sum_of_ends v w ≡ Some e → AreThere e
sum_there v w e h = there (v.lo +ℤ w.lo) (v.hi +ℤ w.hi) e (sum_some v w e h)

difference_there : (v w e : Ends) → difference_of_ends v w ≡ Some e → AreThere e
difference_there v w e h = there (v.lo -ℤ w.hi) (v.hi -ℤ w.lo) e (difference_some v w e h)

product_there : (v w e : Ends) → product_of_ends v w ≡ Some e → AreThere e
product_there v w e h = there (product_span v w).lo (product_span v w).hi e (product_some v w e h)

quotient_there : (v w e : Ends) → quotient_of_ends v w ≡ Some e → AreThere e
quotient_there v w e h = there (quotient_span v w).lo (quotient_span v w).hi e (quotient_some v w e h).1

log_there : (v e : Ends) → log_of_ends v ≡ Some e → AreThere e
unfolding log_of_ends
log_there v e h =
    there (log_down (unsigned_abs v.lo) 40) (log_up (unsigned_abs v.hi) 40) e
    (capped_some (log_down (unsigned_abs v.lo) 40) (log_up (unsigned_abs v.hi) 40) e (not_below_one v.lo (capped (log_down (unsigned_abs v.lo) 40) (log_up (unsigned_abs v.hi) 40)) e h).1)

pub sum_is_form : (f g h : Form) → sum_form f g ≡ Some h → IsForm h
unfolding sum_form
sum_is_form f g h e =
    let p = form_from_some (sum_of_ends f.at g.at) (sum_of_ends f.over g.over) _ h e in
    form_there h (sum_there f.at g.at h.at p.0) (sum_there f.over g.over h.over p.1)
    (λ j l. sum_there (slope_of f j) (slope_of g j) (slope_of h j) (each_some (λ j. sum_of_ends (slope_of f j) (slope_of g j)) h.by p.2 j l))

pub difference_is_form : (f g h : Form) → difference_form f g ≡ Some h → IsForm h
unfolding difference_form
difference_is_form f g h e =
    let p = form_from_some (difference_of_ends f.at g.at) (difference_of_ends f.over g.over) _ h e in
    form_there h (difference_there f.at g.at h.at p.0) (difference_there f.over g.over h.over p.1)
    (λ j l. difference_there (slope_of f j) (slope_of g j) (slope_of h j) (each_some (λ j. difference_of_ends (slope_of f j) (slope_of g j)) h.by p.2 j l))

pub product_is_form : (f g h : Form) → product_form f g ≡ Some h → IsForm h
unfolding product_form
product_is_form f g h e =
    let p = form_from_some (product_of_ends f.at g.at) (product_of_ends f.over g.over) _ h e in
    form_there h (product_there f.at g.at h.at p.0) (product_there f.over g.over h.over p.1)
    (λ j l. let b = both_some sum_of_ends (product_of_ends (slope_of f j) g.over) (product_of_ends f.at (slope_of g j)) (slope_of h j)
    (each_some (λ j. both sum_of_ends (product_of_ends (slope_of f j) g.over) (product_of_ends f.at (slope_of g j))) h.by p.2 j l) in
    sum_there b.0 b.1 (slope_of h j) b.4)

pub quotient_is_form : (f g h : Form) → quotient_form f g ≡ Some h → IsForm h
unfolding quotient_form
quotient_is_form f g h e =
    let p = form_from_some (quotient_of_ends f.at g.at) (quotient_of_ends f.over g.over) _ h e in
    form_there h (quotient_there f.at g.at h.at p.0) (quotient_there f.over g.over h.over p.1)
    (λ j l. let b = both_some quotient_of_ends (both difference_of_ends (Some (slope_of f j)) (both product_of_ends (quotient_of_ends f.at g.at) (Some (slope_of g j)))) (Some g.over) (slope_of h j)
    (each_some (λ j. quotient_slope (quotient_of_ends f.at g.at) (slope_of f j) (slope_of g j) g.over) h.by p.2 j l) in
    quotient_there b.0 b.1 (slope_of h j) b.4)

pub log_is_form : (f h : Form) (e : Ends) → log_form f e ≡ Some h → IsForm h
unfolding log_form
log_is_form f h e q =
    let p = form_from_some (log_of_ends f.at) (log_of_ends f.over) _ h q in
    form_there h (log_there f.at h.at p.0) (log_there f.over h.over p.1)
    (λ j l. let b = both_some product_of_ends (Some (slope_of f j)) (quotient_of_ends e f.over) (slope_of h j)
    (each_some (λ j. both product_of_ends (Some (slope_of f j)) (quotient_of_ends e f.over)) h.by p.2 j l) in
    product_there b.0 b.1 (slope_of h j) b.4)

pub constant_is_form : (c : Ends) → c.lo ≤ℤ c.hi → c.hi <ℤ pos (2 ^ 62) → IsForm (constant_form c)
constant_is_form c o t = record { at = o; over = o; by = ordered; at_top = t; over_top = t }
  where
    ordered : (j : ℕ) → j < 4 → (slope_of (constant_form c) j).lo ≤ℤ (slope_of (constant_form c) j).hi
    ordered zero l = omega (arith, ints)
    ordered (suc zero) l = omega (arith, ints)
    ordered (suc (suc zero)) l = omega (arith, ints)
    ordered (suc (suc (suc zero))) l = omega (arith, ints)
    ordered (suc (suc (suc (suc j)))) l = absurd (omega (arith, l))
