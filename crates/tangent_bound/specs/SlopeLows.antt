-- The slope low of a cell: how far over it the energy lies above a plane at least, by forms about the cell's middle, in 2^-40.
use Rattle.std.specs.Prelude.{ℕ, zero, suc, ◌+◌, ◌-◌, ◌*◌, ◌/◌, ◌^◌, ◌==◌, cond, nat_lt, if◌then◌else◌, Bool, List, [], ◌∷◌, Option, Some, None, option_map, ℤ, pos, ◌-ℤ◌, unsigned_abs, slice_index}
use Rattle.log_laws.specs.Between.{Ends}
use Rattle.log_laws.specs.Interval.{ends}
use Rattle.log_laws.specs.Sums.{all_below}
use Rattle.log_laws.specs.Whole.{floor_over, ceil_over, floor_div, ceil_div}
use Rattle.case_types.specs.Arithmetic.Bounds.{one, attraction_low, attraction_high, covolume_range, plane_sum, potential}
use Rattle.case_types.specs.Arithmetic.Numbers.{Numbers}
use Rattle.case_types.specs.Arithmetic.Tables.{ends_at, ends_of_pair, no_ends}
use Rattle.case_types.specs.Grid.Cells.{Region, box_of_region, middle_point, middle_of, packing_edge}
use Rattle.slope_form.specs.Arithmetic.{capped, both, sum_of_ends, difference_of_ends, product_of_ends}
use Rattle.slope_form.specs.Forms.{Form, form_from, each, constant_form, point_ends, sum_form, difference_form, product_form, quotient_form, log_form, x_log_x_ends}
use Rattle.slope_form.specs.Meaning.{low_of}

-- ---- forms that may not be there
abbrev pub plus : Option Form → Option Form → Option Form
plus f g = both sum_form f g

abbrev pub minus : Option Form → Option Form → Option Form
minus f g = both difference_form f g

abbrev pub times : Option Form → Option Form → Option Form
times f g = both product_form f g

abbrev pub over : Option Form → Option Form → Option Form
over f g = both quotient_form f g

abbrev pub log_of_form : Ends → Option Form → Option Form
log_of_form e f = both log_form f (Some e)

-- the sum of the first n, from the left
unfoldable pub sum_of_all : ℕ → (ℕ → Option Ends) → Option Ends
sum_of_all zero v = Some no_ends
sum_of_all (suc n) v = both sum_of_ends (sum_of_all n v) (v n)

-- ends over 2^shift, rounded outward
abbrev pub outward : ℕ → Ends → Ends
outward shift v = ends (floor_over v.lo (2 ^ shift)) (ceil_over v.hi (2 ^ shift))

-- ---- a function of the compositions of n components, which has a number for each: its slope in a free fraction is the number
-- there less that of the last component
abbrev pub free_slope : ℕ → (ℕ → Option Ends) → ℕ → Option Ends
free_slope n v j = cond (nat_lt j (n - 1)) (both difference_of_ends (v j) (v (n - 1))) (Some no_ends)

abbrev pub mix_form : ℕ → Option Ends → Option Ends → (ℕ → Option Ends) → Option Form
mix_form n at over v = form_from at over (each (free_slope n v))

-- the fraction of a component in the middle of a cell, and the ends of its fractions
abbrev pub centre : ℕ → Region → ℕ → ℕ
centre n r i = slice_index (middle_point n r).composition i * 2 ^ 20

abbrev pub fraction_ends : ℕ → Region → ℕ → Ends
fraction_ends n r i = let x = box_of_region n r in ends (pos (slice_index x.lo i)) (pos (slice_index x.hi i))

-- ---- the mixing terms: the number of a component is the slope of its x log x
abbrev pub mixing_ends : Numbers → Region → ℕ → Option (Ends × Ends)
mixing_ends p r i =
    let x = box_of_region p.count r in
    x_log_x_ends (slice_index x.lo i) (slice_index x.hi i) (centre p.count r i) p.log_e

unfoldable pub mixing_form : Numbers → Region → Option Form
mixing_form p r =
    mix_form p.count (sum_of_all p.count (λ i. option_map (λ m. m.0) (mixing_ends p r i))) (Some no_ends) (λ i. option_map (λ m. m.1) (mixing_ends p r i))

-- ---- the mean covolume, from ends of the covolumes over 2^shift: 2^16 leaves them lifted, 2^(16+lift) plain
unfoldable pub covolume_form : Numbers → Region → ℕ → Option Form
covolume_form p r shift =
    let b : ℕ → Ends = λ i. outward shift (ends_at p.covolumes i) in
    let range = outward shift (covolume_range p (box_of_region p.count r)) in
    mix_form p.count (sum_of_all p.count (λ i. product_of_ends (point_ends (centre p.count r i)) (b i))) (capped range.lo range.hi) (λ i. Some (b i))

-- ---- the mean attraction, lifted
abbrev pub lifted_attraction : Numbers → ℕ → ℕ → Ends
lifted_attraction p i j = outward 9 (ends_of_pair p.attractions i j)

-- the attraction of two components in the mean at the middle
abbrev pub pair_at_centre : Numbers → Region → ℕ → ℕ → Option Ends
pair_at_centre p r i j =
    both product_of_ends (product_of_ends (point_ends (centre p.count r i)) (point_ends (centre p.count r j))) (Some (lifted_attraction p i j))

-- the number of a component: of its attractions, each times the sum of the other's fraction in the middle and over the cell
abbrev pub share_of_attraction : Numbers → Region → ℕ → ℕ → Option Ends
share_of_attraction p r i j =
    both product_of_ends (Some (lifted_attraction p i j)) (sum_of_ends (point_ends (centre p.count r j)) (fraction_ends p.count r j))

abbrev pub attraction_number : Numbers → Region → ℕ → Option Ends
attraction_number p r i = sum_of_all p.count (share_of_attraction p r i)

unfoldable pub attraction_form : Numbers → Region → Option Form
attraction_form p r =
    let n = p.count in
    let x = box_of_region n r in
    let range = outward 9 (ends (attraction_low p x) (attraction_high p x)) in
    mix_form n (sum_of_all n (λ i. sum_of_all n (pair_at_centre p r i))) (capped range.lo range.hi) (attraction_number p r)

-- ---- the plane, for potentials of size below 2^60
abbrev pub has_small_potential : List ℤ → ℕ → Bool
has_small_potential lam i = nat_lt (unsigned_abs (potential lam i)) (2 ^ 60)

abbrev pub have_small_potentials : ℕ → List ℤ → Bool
have_small_potentials n lam = all_below n (has_small_potential lam)

unfoldable pub plane_form : Numbers → List ℤ → Region → Option Form
plane_form p lam r =
    let n = p.count in
    let s = plane_sum n (potential lam) (centre n r) in
    if have_small_potentials n lam
    then mix_form n (capped (floor_over s one) (ceil_over s one)) (Some no_ends) (λ i. Some (ends (potential lam i) (potential lam i)))
    else None

-- ---- what depends on the compositions
pub record MixForms : Type 0 where
  pub mixing : Option Form
  pub log_covolume : Option Form
  pub ratio : Option Form
  -- the mean covolume times the logarithm of e
  pub push : Option Form
  pub plane : Option Form

abbrev pub mix_forms : Numbers → List ℤ → Region → MixForms
mix_forms p lam r =
    let lifted = covolume_form p r 16 in
    record {
      mixing = mixing_form p r;
      log_covolume = log_of_form p.log_e lifted;
      ratio = over (attraction_form p r) lifted;
      push = times (Some (constant_form p.log_e)) (covolume_form p r (16 + p.lift));
      plane = plane_form p lam r;
    }

-- ---- what depends on the packing
-- the logarithm of (1 + (1 + s) y) over (1 - (s - 1) y), for the root s of 2
abbrev pub lambda_form : Numbers → Option Form → Option Form
lambda_form p y =
    let unit = Some (constant_form (point_ends one)) in
    let root = Some (constant_form (outward 20 p.root_two)) in
    minus (log_of_form p.log_e (plus unit (times (plus unit root) y))) (log_of_form p.log_e (minus unit (times (minus root unit) y)))

pub record PackingForms : Type 0 where
  pub packing : Form
  pub log_packing : Option Form
  -- of what the packing leaves of 1
  pub log_rest : Option Form
  pub lambda : Option Form

abbrev pub packing_form : ℕ → ℕ → Form
packing_form yl yh =
    let none = no_ends in
    record { at = point_ends ((yl + yh) / 2); over = ends (pos yl) (pos yh); by = none ∷ none ∷ none ∷ point_ends one ∷ [] }

abbrev pub packing_forms : Numbers → ℕ → ℕ → PackingForms
packing_forms p yl yh =
    let y = Some (packing_form yl yh) in
    record {
      packing = packing_form yl yh;
      log_packing = log_of_form p.log_e y;
      log_rest = log_of_form p.log_e (minus (Some (constant_form (point_ends one))) y);
      lambda = lambda_form p y;
    }

-- ---- the energy less the plane
abbrev pub lift_form : Numbers → Form
lift_form p = constant_form (point_ends (p.lift * one))

-- 1 over twice the root of 2
abbrev pub half_root_form : Numbers → Form
half_root_form p = constant_form (ends (floor_div (pos (2 ^ 99)) p.root_two.hi) (ceil_div (pos (2 ^ 99)) p.root_two.lo))

unfoldable pub cell_form : Numbers → MixForms → PackingForms → Option Form
cell_form p m s =
    let mixed = plus m.mixing s.log_packing in
    let ideal = minus (plus (minus mixed m.log_covolume) (Some (lift_form p))) s.log_rest in
    let pulled = minus ideal (times (times m.ratio s.lambda) (Some (half_root_form p))) in
    minus (plus pulled (over m.push (Some s.packing))) m.plane

-- from the middle of the packings to their ends
abbrev pub packing_from : ℕ → ℕ → ℤ
packing_from yl yh = pos yl -ℤ pos ((yl + yh) / 2)

abbrev pub packing_to : ℕ → ℕ → ℤ
packing_to yl yh = pos yh -ℤ pos ((yl + yh) / 2)

-- from the middle to the ends of a free fraction, or of the packing
abbrev pub step_from : Region → ℕ → ℤ
step_from r j = cond (j == packing_edge) (packing_from r.ylo r.yhi) (pos (slice_index r.lo j * 2 ^ 20) -ℤ pos (middle_of r j * 2 ^ 20))

abbrev pub step_to : Region → ℕ → ℤ
step_to r j = cond (j == packing_edge) (packing_to r.ylo r.yhi) (pos (slice_index r.hi j * 2 ^ 20) -ℤ pos (middle_of r j * 2 ^ 20))

-- none where a logarithm or a quotient isn't there, as in cells whose packing reaches 0 or 1, or whose middle has a fraction 0,
-- or where an end would have size 2^61 or more
unfoldable pub slope_low : Numbers → List ℤ → Region → Option ℤ
slope_low p lam r =
    option_map (λ (f : Form). low_of f (step_from r) (step_to r)) (cell_form p (mix_forms p lam r) (packing_forms p r.ylo r.yhi))
