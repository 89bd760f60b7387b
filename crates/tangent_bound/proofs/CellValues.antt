-- The value of a cell's form, from the values of its parts: how far the energy of a mole lies above the plane, in the form's own order.
use Rattle.std.proofs.Common.{ℕ, ◌*◌, ◌^◌, ◌<◌, ◌≡◌, arith, List, ℤ, pos, ◌*ℤ◌, ◌≤ℤ◌, Option, Some}
use Rattle.std.proofs.lemmas.Int.{ints}
use Rattle.log_laws.specs.Fraction.{Fraction, whole, sum_of, difference, product_of, inverse}
use Rattle.log_laws.specs.LogE.{HoldsLogE}
use Rattle.log_laws.specs.LogSum.{LogSum, AtLeast, added, scaled, opposite, constant, log_of}
use Rattle.log_laws.specs.Whole.{floor_div, ceil_div}
use Rattle.log_laws.specs.Interval.{ends}
use Rattle.log_laws.proofs.Exports.{fraction_one}
use Rattle.case_types.specs.Arithmetic.Bounds.{one}
use Rattle.case_types.specs.Arithmetic.Numbers.{Numbers}
use Rattle.case_types.specs.Grid.Cells.{Region}
use Rattle.slope_form.specs.Forms.{Form, point_ends, constant_form}
use Rattle.slope_form.specs.Meaning.{Steps, bits_of, low_of}
use Rattle.slope_form.proofs.Exports.{low_holds}
use Rattle.tangent_bound.specs.SlopeLows.{outward, packing_form, mix_forms, packing_forms, cell_form, minus}
use Rattle.tangent_bound.proofs.SlopeParts.{Values, parts_of, PartsShow, Shows, ShowsSlope}
use Rattle.tangent_bound.proofs.ShownForms.{Held, held_shows, slope_of_shows, shows_sum, shows_difference, slopes_sum, slopes_difference, shows_product, shows_fraction_product, shows_quotient, shows_log}

-- the numbers that don't change over the cell
pub record Constants : Type 0 where
  -- the root of 2, and 1 over twice it
  pub root : Fraction
  pub half_root : Fraction
  pub lift : ℕ
  pub log_e : Fraction

-- the logarithm of (1 + (1 + s) y) over (1 - (s - 1) y), for the root s of 2
abbrev pub lambda_value : Constants → Fraction → LogSum
lambda_value n y =
    added (log_of (sum_of fraction_one (product_of y (sum_of fraction_one n.root)))) (opposite (log_of (difference fraction_one (product_of y (difference n.root fraction_one)))))

abbrev pub cell_value : Constants → Values → LogSum
cell_value n v =
    let mixed = added v.mixing (log_of v.packing) in
    let ideal = added (added (added mixed (opposite (log_of v.lifted))) (constant (whole (pos n.lift)))) (opposite (log_of (difference fraction_one v.packing))) in
    let pulled = added ideal (opposite (scaled n.half_root (scaled (product_of (inverse v.lifted) v.attraction) (lambda_value n v.packing)))) in
    added (added pulled (constant (product_of (inverse v.packing) (product_of v.plain n.log_e)))) (opposite (constant v.plane))

-- the ends in the form hold them
pub record AreHeld (p : Numbers) (n : Constants) : Type 0 where
  pub root : Held (outward 20 p.root_two) n.root
  pub half_root : Held (ends (floor_div (pos (2 ^ 99)) p.root_two.hi) (ceil_div (pos (2 ^ 99)) p.root_two.lo)) n.half_root
  pub lift : Held (point_ends (p.lift * one)) (whole (pos n.lift))
  pub log_e : Held p.log_e n.log_e
  pub right : HoldsLogE p.log_e

unit_held : Held (point_ends one) fraction_one
unit_held = record {
  ordered = omega (arith, ints);
  top = omega (arith, ints);
  between = record { is_fraction = omega arith; above = omega (arith, ints); below = omega (arith, ints) };
}

lambda_shows : (p : Numbers) (n : Constants) (yl yh : ℕ) (d : Steps) (y z : Fraction) → AreHeld p n → Shows (Some (packing_form yl yh)) d (constant y) (constant z) →
    Shows (packing_forms p yl yh).lambda d (lambda_value n y) (lambda_value n z)
lambda_shows p n yl yh d y z h s =
    let unit = held_shows {d = d} unit_held in
    let root = held_shows {d = d} h.root in
    let above = shows_sum unit (shows_product y z (shows_sum unit root) s) in
    let below = shows_difference unit (shows_product y z (shows_difference root unit) s) in
    shows_difference
    (shows_log p.log_e (sum_of fraction_one (product_of y (sum_of fraction_one n.root))) (sum_of fraction_one (product_of z (sum_of fraction_one n.root))) h.right h.log_e.ordered above)
    (shows_log p.log_e (difference fraction_one (product_of y (difference n.root fraction_one))) (difference fraction_one (product_of z (difference n.root fraction_one))) h.right h.log_e.ordered below)

pub cell_shows : (p : Numbers) (lam : List ℤ) (r : Region) (n : Constants) (d : Steps) (c v : Values) → AreHeld p n → PartsShow (parts_of p lam r) d c v →
    ShowsSlope (cell_form p (mix_forms p lam r) (packing_forms p r.ylo r.yhi)) d (cell_value n c) (cell_value n v)
unfolding cell_form
cell_shows p lam r n d c v h s =
    let parts = parts_of p lam r in
    let unit = held_shows {d = d} unit_held in
    let log = λ (x y : Fraction) (q : Option Form) (w : Shows q d (constant x) (constant y)). shows_log p.log_e x y h.right h.log_e.ordered w in
    let mixed = slopes_sum s.mixing (slope_of_shows (log c.packing v.packing (Some parts.packing) s.packing)) in
    let parted = slopes_difference mixed (slope_of_shows (log c.lifted v.lifted parts.lifted s.lifted)) in
    let lifted = slopes_sum parted (slope_of_shows (held_shows {d = d} h.lift)) in
    let rest = log (difference fraction_one c.packing) (difference fraction_one v.packing) (minus (Some (constant_form (point_ends one))) (Some parts.packing)) (shows_difference unit s.packing) in
    let ideal = slopes_difference lifted (slope_of_shows rest) in
    let ratio = shows_quotient c.lifted v.lifted s.attraction s.lifted in
    let pull = shows_fraction_product (product_of (inverse c.lifted) c.attraction) (product_of (inverse v.lifted) v.attraction) ratio (lambda_shows p n r.ylo r.yhi d c.packing v.packing h s.packing) in
    let pulled = slopes_difference ideal (slope_of_shows (shows_product n.half_root n.half_root pull (held_shows {d = d} h.half_root))) in
    let push = shows_quotient c.packing v.packing (shows_product c.plain v.plain (held_shows {d = d} h.log_e) s.plain) s.packing in
    slopes_difference (slopes_sum pulled (slope_of_shows push)) s.plane

-- the low of the cell
pub cell_low_holds : (p : Numbers) (lam : List ℤ) (r : Region) (n : Constants) (d : Steps) (c v : Values) (f : Form) (a b : ℕ → ℤ) → AreHeld p n → PartsShow (parts_of p lam r) d c v →
    cell_form p (mix_forms p lam r) (packing_forms p r.ylo r.yhi) ≡ Some f →
    ((j : ℕ) → j < 4 → ((a j *ℤ pos d.den) ≤ℤ (d.step j *ℤ pos (2 ^ 40))) × ((d.step j *ℤ pos (2 ^ 40)) ≤ℤ (b j *ℤ pos d.den))) →
    AtLeast (cell_value n v) (bits_of (low_of f a b))
cell_low_holds p lam r n d c v f a b h s e w =
    let k = cell_shows p lam r n d c v h s in
    low_holds f d (cell_value n c) (cell_value n v) a b (k.form f e).by (k.sloped f e) w
