-- Sums and differences of forms mean those of their log sums.
use Rattle.std.proofs.Common.{◌≡◌, ◌+ℤ◌, ◌-ℤ◌, Some}
use Rattle.log_laws.specs.LogSum.{LogSum, opposite, added}
use Rattle.slope_form.specs.Arithmetic.{sum_of_ends, difference_of_ends}
use Rattle.slope_form.specs.Forms.{Form, slope_of, sum_form, difference_form}
use Rattle.slope_form.specs.Meaning.{Steps, IsSloped, Means}
use Rattle.slope_form.proofs.Capped.{each_some, form_from_some}
use Rattle.slope_form.proofs.Meanings.{IsForm, moves_of, same_ends, sloped}
use Rattle.slope_form.proofs.Rules.{in_turned, moves_turned, sum_moves}
use Rattle.slope_form.proofs.Slopes.{all_added, all_turned, turned_ends}
use Rattle.slope_form.proofs.Spans.{difference_some, in_added, sum_some}

pub sum_sloped : (f g h : Form) (d : Steps) (u v u' v' : LogSum) → IsForm f → IsForm g → sum_form f g ≡ Some h → IsSloped f d u v →
    IsSloped g d u' v' →
    IsSloped h d (added u u') (added v v')
unfolding sum_form
sum_sloped f g h d u v u' v' of og e s t =
    let p = form_from_some (sum_of_ends f.at g.at) (sum_of_ends f.over g.over) _ h e in
    let a = sum_some f.at g.at h.at p.0 in
    sloped h d (added u u') (added v v') (all_added (slope_of f) (slope_of g))
    (in_added f.at g.at h.at u u' s.at t.at a.lo_is a.hi_is)
    (λ j l. same_ends ((slope_of f j).lo +ℤ (slope_of g j).lo) ((slope_of f j).hi +ℤ (slope_of g j).hi) (slope_of h j)
    (sum_some (slope_of f j) (slope_of g j) (slope_of h j) (each_some (λ j. sum_of_ends (slope_of f j) (slope_of g j)) h.by p.2 j l)))
    (sum_moves u v u' v' (moves_of f d u v of s) (moves_of g d u' v' og t))

pub sum_means : (f g h : Form) (d : Steps) (u v u' v' : LogSum) → IsForm f → IsForm g → sum_form f g ≡ Some h → Means f d u v → Means g d u' v' →
    Means h d (added u u') (added v v')
unfolding sum_form
sum_means f g h d u v u' v' of og e m n =
    let p = form_from_some (sum_of_ends f.at g.at) (sum_of_ends f.over g.over) _ h e in
    let a = sum_some f.over g.over h.over p.1 in
    record {
      sloped = sum_sloped f g h d u v u' v' of og e m.sloped n.sloped;
      over_centre = in_added f.over g.over h.over u u' m.over_centre n.over_centre a.lo_is a.hi_is;
      over_point = in_added f.over g.over h.over v v' m.over_point n.over_point a.lo_is a.hi_is;
    }

-- ---- differences
pub difference_sloped : (f g h : Form) (d : Steps) (u v u' v' : LogSum) → IsForm f → IsForm g → difference_form f g ≡ Some h → IsSloped f d u v →
    IsSloped g d u' v' →
    IsSloped h d (added u (opposite u')) (added v (opposite v'))
unfolding difference_form
difference_sloped f g h d u v u' v' of og e s t =
    let p = form_from_some (difference_of_ends f.at g.at) (difference_of_ends f.over g.over) _ h e in
    let a = difference_some f.at g.at h.at p.0 in
    sloped h d (added u (opposite u')) (added v (opposite v')) (all_added (slope_of f) (all_turned (slope_of g)))
    (in_added f.at (turned_ends g.at) h.at u (opposite u') s.at (in_turned g.at u' t.at) a.lo_is a.hi_is)
    (λ j l. same_ends ((slope_of f j).lo -ℤ (slope_of g j).hi) ((slope_of f j).hi -ℤ (slope_of g j).lo) (slope_of h j)
    (difference_some (slope_of f j) (slope_of g j) (slope_of h j) (each_some (λ j. difference_of_ends (slope_of f j) (slope_of g j)) h.by p.2 j l)))
    (sum_moves u v (opposite u') (opposite v') (moves_of f d u v of s) (moves_turned u' v' (moves_of g d u' v' og t)))

pub difference_means : (f g h : Form) (d : Steps) (u v u' v' : LogSum) → IsForm f → IsForm g → difference_form f g ≡ Some h → Means f d u v →
    Means g d u' v' →
    Means h d (added u (opposite u')) (added v (opposite v'))
unfolding difference_form
difference_means f g h d u v u' v' of og e m n =
    let p = form_from_some (difference_of_ends f.at g.at) (difference_of_ends f.over g.over) _ h e in
    let a = difference_some f.over g.over h.over p.1 in
    record {
      sloped = difference_sloped f g h d u v u' v' of og e m.sloped n.sloped;
      over_centre = in_added f.over (turned_ends g.over) h.over u (opposite u') m.over_centre (in_turned g.over u' n.over_centre) a.lo_is a.hi_is;
      over_point = in_added f.over (turned_ends g.over) h.over v (opposite v') m.over_point (in_turned g.over v' n.over_point) a.lo_is a.hi_is;
    }
