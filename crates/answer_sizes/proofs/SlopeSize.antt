-- The slope low of a cell is small where it is there, since the ends of its form are.
use Rattle.std.proofs.Common.{◌≡◌, ℕ, ◌+◌, ◌*◌, ◌/◌, ◌^◌, ◌<◌, ◌≤◌, ◌==◌, ◌⊎◌, inl, inr, Bool, true, false, Option, Some, None, List, ℤ, pos, ◌+ℤ◌, ◌-ℤ◌, ◌*ℤ◌, unsigned_abs, slice_index, refl, arith, lit<}
use Rattle.std.specs.Prelude.{option_map}
use Rattle.std.specs.Int.{int_min}
use Rattle.std.proofs.Math.Nat.{mul-le-mul}
use Rattle.std.proofs.lemmas.Int.{ints, clamps, unsigned_abs-mul}
use Rattle.log_laws.specs.Between.{Ends}
use Rattle.log_laws.specs.Sums.{int_sum_below}
use Rattle.fix_interval.specs.Extremes.{least_of_four}
use Rattle.case_types.specs.Arithmetic.Numbers.{Numbers}
use Rattle.case_types.specs.Grid.Cells.{Region, packing_edge}
use Rattle.energy_surface.specs.Energies.{IsInside}
use Rattle.slope_form.specs.Arithmetic.{difference_of_ends}
use Rattle.slope_form.specs.Forms.{Form, slope_of, difference_form}
use Rattle.slope_form.specs.Meaning.{least_step, low_of}
use Rattle.slope_form.proofs.Exports.{capped_some, both_some, form_from_some, each_some}
use Rattle.answer_sizes.proofs.Rounding.{floor_small}
use Rattle.tangent_bound.specs.SlopeLows.{MixForms, PackingForms, mix_forms, packing_forms, cell_form, step_from, step_to, slope_low}

-- ---- the ends of the form
record IsSmallForm (f : Form) : Type 0 where
  at : unsigned_abs f.at.lo < 2 ^ 61
  lows : (j : ℕ) → j < 4 → unsigned_abs (slope_of f j).lo < 2 ^ 61
  highs : (j : ℕ) → j < 4 → unsigned_abs (slope_of f j).hi < 2 ^ 61

small_ends : (v w e : Ends) → difference_of_ends v w ≡ Some e → (unsigned_abs e.lo < 2 ^ 61) × (unsigned_abs e.hi < 2 ^ 61)
unfolding difference_of_ends
small_ends v w e h =
    let k = capped_some (v.lo -ℤ w.hi) (v.hi -ℤ w.lo) e h in
    (rw k.lo_is k.lo_small, rw k.hi_is k.hi_small)

small_difference : (f g h : Form) → difference_form f g ≡ Some h → IsSmallForm h
unfolding difference_form
small_difference f g h e =
    let parts = form_from_some _ _ _ h e in
    let by = each_some (λ j. difference_of_ends (slope_of f j) (slope_of g j)) h.by parts.2 in
    record {
      at = (small_ends f.at g.at h.at parts.0).0;
      lows = λ j l. (small_ends (slope_of f j) (slope_of g j) (slope_of h j) (by j l)).0;
      highs = λ j l. (small_ends (slope_of f j) (slope_of g j) (slope_of h j) (by j l)).1;
    }

small_cell : (p : Numbers) (m : MixForms) (s : PackingForms) (f : Form) → cell_form p m s ≡ Some f → IsSmallForm f
unfolding cell_form
small_cell p m s f e =
    let last = both_some difference_form _ m.plane f e in
    small_difference last.0 last.1 f last.4

-- ---- a step
least_of : (P : ℤ → Type 0) (a b c d : ℤ) → P a → P b → P c → P d → P (least_of_four a b c d)
least_of P a b c d pa pb pc pd = lesser _ _ (lesser _ _ pa pb) (lesser _ _ pc pd)
  where
    which : (a b : ℤ) → (int_min a b ≡ a) ⊎ (int_min a b ≡ b)
    which a b = grind (arith, ints, clamps)

    lesser : (a b : ℤ) → P a → P b → P (int_min a b)
    lesser a b h k = elim (which a b) [ inl e ↦ rw e h | inr e ↦ rw e k ]

product_small : (x y : ℤ) → unsigned_abs x < 2 ^ 61 → unsigned_abs y ≤ 2 ^ 40 → unsigned_abs (x *ℤ y) ≤ 2 ^ 101
product_small x y h k = sized (unsigned_abs x) (unsigned_abs y) (x *ℤ y) (unsigned_abs-mul x y) (mul-le-mul (below h) k)
  where
    below : unsigned_abs x < 2 ^ 61 → unsigned_abs x ≤ 2 ^ 61
    below h = omega (arith, h)

    sized : (a b : ℕ) (z : ℤ) → unsigned_abs z ≡ a * b → a * b ≤ 2 ^ 61 * 2 ^ 40 → unsigned_abs z ≤ 2 ^ 101
    sized a b z e l = omega (arith, e, l)

step_small : (v : Ends) (a b : ℤ) → unsigned_abs v.lo < 2 ^ 61 → unsigned_abs v.hi < 2 ^ 61 → unsigned_abs a ≤ 2 ^ 40 → unsigned_abs b ≤ 2 ^ 40 →
    unsigned_abs (least_step v a b) ≤ 2 ^ 61
step_small v a b lo hi ha hb =
    floor_small (least_of_four (v.lo *ℤ a) (v.lo *ℤ b) (v.hi *ℤ a) (v.hi *ℤ b)) (2 ^ 40) (2 ^ 61) (lit< tt)
    (least_of (λ (z : ℤ). unsigned_abs z ≤ 2 ^ 101) (v.lo *ℤ a) (v.lo *ℤ b) (v.hi *ℤ a) (v.hi *ℤ b)
    (product_small v.lo a lo ha) (product_small v.lo b lo hb) (product_small v.hi a hi ha) (product_small v.hi b hi hb))

-- ---- the low
low_small : (f : Form) (a b : ℕ → ℤ) → IsSmallForm f → ((j : ℕ) → unsigned_abs (a j) ≤ 2 ^ 40) → ((j : ℕ) → unsigned_abs (b j) ≤ 2 ^ 40) → unsigned_abs (low_of f a b) ≤ 2 ^ 64
unfolding int_sum_below
low_small f a b small ha hb =
    let step : (j : ℕ) → j < 4 → unsigned_abs (least_step (slope_of f j) (a j) (b j)) ≤ 2 ^ 61 = λ j l. step_small (slope_of f j) (a j) (b j) (small.lows j l) (small.highs j l) (ha j) (hb j) in
    added f.at.lo (least_step (slope_of f 0) (a 0) (b 0)) (least_step (slope_of f 1) (a 1) (b 1)) (least_step (slope_of f 2) (a 2) (b 2)) (least_step (slope_of f 3) (a 3) (b 3))
    small.at (step 0 (omega arith)) (step 1 (omega arith)) (step 2 (omega arith)) (step 3 (omega arith))
  where
    added : (z a b c d : ℤ) → unsigned_abs z < 2 ^ 61 → unsigned_abs a ≤ 2 ^ 61 → unsigned_abs b ≤ 2 ^ 61 → unsigned_abs c ≤ 2 ^ 61 → unsigned_abs d ≤ 2 ^ 61 →
        unsigned_abs (z +ℤ ((((pos 0 +ℤ a) +ℤ b) +ℤ c) +ℤ d)) ≤ 2 ^ 64
    added z a b c d h ha hb hc hd = omega (arith, ints, h, ha, hb, hc, hd)

-- ---- the steps of a cell inside the domain
from_middle : (x y m k : ℕ) → x ≤ m → y ≤ m → m * k ≤ 2 ^ 40 → (unsigned_abs (pos (x * k) -ℤ pos ((x + y) / 2 * k)) ≤ 2 ^ 40) × (unsigned_abs (pos (y * k) -ℤ pos ((x + y) / 2 * k)) ≤ 2 ^ 40)
from_middle x y m k h g l =
    let a : x * k ≤ m * k = mul-le-mul h (same k) in
    let b : y * k ≤ m * k = mul-le-mul g (same k) in
    let c : (x + y) / 2 * k ≤ m * k = mul-le-mul (between h g) (same k) in
    (apart (x * k) ((x + y) / 2 * k) (omega (arith, a, l)) (omega (arith, c, l)), apart (y * k) ((x + y) / 2 * k) (omega (arith, b, l)) (omega (arith, c, l)))
  where
    same : (x : ℕ) → x ≤ x
    same x = omega arith

    between : x ≤ m → y ≤ m → (x + y) / 2 ≤ m
    between h g = omega (arith, h, g)

    apart : (a b : ℕ) → a ≤ 2 ^ 40 → b ≤ 2 ^ 40 → unsigned_abs (pos a -ℤ pos b) ≤ 2 ^ 40
    apart a b h k = omega (arith, ints, h, k)

step_sizes : (r : Region) → IsInside r → (j : ℕ) (b : Bool) → (j == packing_edge) ≡ b → (unsigned_abs (step_from r j) ≤ 2 ^ 40) × (unsigned_abs (step_to r j) ≤ 2 ^ 40)
step_sizes r inside j true e = rw e (of_packing r.ylo r.yhi inside.low inside.high)
  where
    of_packing : (x y : ℕ) → x ≤ 2 ^ 40 → y ≤ 2 ^ 40 → (unsigned_abs (pos x -ℤ pos ((x + y) / 2)) ≤ 2 ^ 40) × (unsigned_abs (pos y -ℤ pos ((x + y) / 2)) ≤ 2 ^ 40)
    of_packing x y h k = (omega (arith, ints, h, k), omega (arith, ints, h, k))
step_sizes r inside j false e = rw e (from_middle (slice_index r.lo j) (slice_index r.hi j) (2 ^ 20) (2 ^ 20) (inside.free_low j) (inside.free_high j) (omega arith))

pub slope_low_small : (p : Numbers) (lam : List ℤ) (r : Region) (z : ℤ) → IsInside r → slope_low p lam r ≡ Some z → unsigned_abs z ≤ 2 ^ 64
unfolding slope_low
slope_low_small p lam r z inside e = by_form (cell_form p (mix_forms p lam r) (packing_forms p r.ylo r.yhi)) refl e
  where
    by_form : (o : Option Form) → cell_form p (mix_forms p lam r) (packing_forms p r.ylo r.yhi) ≡ o → option_map (λ (f : Form). low_of f (step_from r) (step_to r)) o ≡ Some z → unsigned_abs z ≤ 2 ^ 64
    by_form None is e = absurd (cc e)
    by_form (Some f) is e =
        let same : low_of f (step_from r) (step_to r) ≡ z = cc in
        rw (← same)
        (low_small f (step_from r) (step_to r) (small_cell p (mix_forms p lam r) (packing_forms p r.ylo r.yhi) f is)
        (λ j. (step_sizes r inside j (j == packing_edge) refl).0) (λ j. (step_sizes r inside j (j == packing_edge) refl).1))
