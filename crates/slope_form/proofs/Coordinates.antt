-- The fraction of each component and the packing fraction as forms, and x log x of a fraction.
use Rattle.std.proofs.Common.{ℕ, zero, suc, ◌*◌, ◌^◌, ◌≤◌, ◌<◌, ◌≡◌, cond, ◌==◌, Bool, true, false, [], ◌∷◌, refl, sym, ap, ◌∙◌, arith, inl, inr, ℤ, pos, ◌+ℤ◌, ◌*ℤ◌, ◌≤ℤ◌}
use Rattle.std.proofs.Math.IntN.{*ℤ_comm, zero-*ℤ}
use Rattle.std.proofs.lemmas.Bool.{cases_lt}
use Rattle.std.proofs.lemmas.Int.{ints}
use Rattle.log_laws.specs.Between.{Ends, IsBetween}
use Rattle.log_laws.specs.Fraction.{Fraction, IsFraction, IsSame, difference}
use Rattle.log_laws.specs.Interval.{ends}
use Rattle.log_laws.specs.LogSum.{LogSum, constant}
use Rattle.log_laws.specs.Sums.{int_sum_below}
use Rattle.log_laws.proofs.Exports.{over_den, product_pos, scale_scale}
use Rattle.slope_form.specs.Forms.{Form, slope_of}
use Rattle.slope_form.specs.Meaning.{Steps, IsIn, IsSloped, Means, MeanValue}
use Rattle.slope_form.proofs.LinearSlopes.{exact_moves, free_ends, linear_moves}
use Rattle.slope_form.proofs.LogSlopes.{mean_moves}
use Rattle.slope_form.proofs.Meanings.{sloped}
use Rattle.slope_form.proofs.Slopes.{Moves}
use Rattle.slope_form.proofs.Spans.{in_fraction, product_span, slope_times}

-- ---- the fraction of one component
abbrev pub unit_ends : Ends
unit_ends = ends (pos (2 ^ 40)) (pos (2 ^ 40))

abbrev pub no_ends : Ends
no_ends = ends (pos 0) (pos 0)

-- 1 at i and 0 elsewhere
abbrev pub unit_at : ℕ → ℕ → ℤ
unit_at i k = cond (k == i) (pos (2 ^ 40)) (pos 0)

abbrev pub unit_ends_at : ℕ → ℕ → Ends
unit_ends_at i k = cond (k == i) unit_ends no_ends

pub same_place : (i : ℕ) → (i == i) ≡ true
same_place i = grind arith

pub other_place : (i k : ℕ) → k < i → (k == i) ≡ false
other_place i k h = grind (arith, h)

pub later_place : (i k : ℕ) → i < k → (k == i) ≡ false
later_place i k h = grind (arith, h)

none_below : (n i : ℕ) (z : ℕ → ℤ) → n ≤ i → int_sum_below n (λ k. unit_at i k *ℤ z k) ≡ pos 0
unfolding int_sum_below
none_below zero i z h = refl
none_below (suc n) i z h = rw (none_below n i z (omega (arith, h)), other_place i n (omega (arith, h)), zero-*ℤ (z n)) refl

one_of : (n i : ℕ) (z : ℕ → ℤ) → i < n → int_sum_below n (λ k. unit_at i k *ℤ z k) ≡ pos (2 ^ 40) *ℤ z i
unfolding int_sum_below
one_of zero i z h = absurd (omega (arith, h))
one_of (suc n) i z h = elim (cases_lt i n) [
  | inl l ↦ rw (one_of n i z l, later_place i n l, zero-*ℤ (z n)) (plus_zero (pos (2 ^ 40) *ℤ z i))
  | inr l ↦ at_last (omega (arith, h, l))
]
  where
    plus_zero : (x : ℤ) → x +ℤ pos 0 ≡ x
    plus_zero x = omega (arith, ints)

    zero_plus : (x : ℤ) → pos 0 +ℤ x ≡ x
    zero_plus x = omega (arith, ints)

    at_last : n ≡ i → int_sum_below (suc n) (λ k. unit_at i k *ℤ z k) ≡ pos (2 ^ 40) *ℤ z i
    at_last e = rw (e, none_below i i z (omega arith), same_place i) (zero_plus (pos (2 ^ 40) *ℤ z i))

unit_among : (i k : ℕ) (b : Bool) → IsBetween (cond b unit_ends no_ends) 1 (over_den (cond b (pos (2 ^ 40)) (pos 0)) 1)
unit_among i k true = record { is_fraction = omega arith; above = omega (arith, ints); below = omega (arith, ints) }
unit_among i k false = record { is_fraction = omega arith; above = omega (arith, ints); below = omega (arith, ints) }

-- a step in units of 2^-40
spelled : (t x : ℤ) (p n : ℕ) → x *ℤ pos n ≡ t *ℤ pos p → (pos (2 ^ 40) *ℤ t) *ℤ pos p ≡ x *ℤ pos (1 * (2 ^ 40 * n))
spelled t x p n e =
    let a : 1 * (2 ^ 40 * n) ≡ n * 2 ^ 40 = omega arith in
    let c : p * 2 ^ 40 ≡ 2 ^ 40 * p = omega arith in
    ap (λ (w : ℤ). w *ℤ pos p) (*ℤ_comm (pos (2 ^ 40)) t) ∙ scale_scale t (2 ^ 40) p ∙ ap (λ (w : ℕ). t *ℤ pos w) (sym c)
    ∙ sym (scale_scale t p (2 ^ 40))
    ∙ ap (λ (w : ℤ). w *ℤ pos (2 ^ 40)) (sym e) ∙ scale_scale x n (2 ^ 40) ∙ ap (λ (w : ℕ). x *ℤ pos w) (sym a)

low_same : (t x : ℤ) (p n : ℕ) → x *ℤ pos n ≡ t *ℤ pos p → ((pos (2 ^ 40) *ℤ t) *ℤ pos p) ≤ℤ (x *ℤ pos (1 * (2 ^ 40 * n)))
low_same t x p n e = rw (spelled t x p n e) (omega (arith, ints))

high_same : (t x : ℤ) (p n : ℕ) → x *ℤ pos n ≡ t *ℤ pos p → (x *ℤ pos (1 * (2 ^ 40 * n))) ≤ℤ ((pos (2 ^ 40) *ℤ t) *ℤ pos p)
high_same t x p n e = rw (spelled t x p n e) (omega (arith, ints))

-- the fraction of the component i of m + 1, the last one included
pub coordinate_moves : (m i : ℕ) (z : ℕ → ℤ) (d : Steps) (b : Fraction) → m ≤ 3 → i < suc m → ((j : ℕ) → j < m → d.step j ≡ z j) →
    int_sum_below (suc m) z ≡ pos 0 → IsFraction b →
    IsSame b (over_den (z i) d.den) → Moves (constant b) (free_ends m (unit_ends_at i)) d
coordinate_moves m i z d b h l e s pb q =
    linear_moves m (unit_ends_at i) (unit_at i) z 1 d b h (omega arith) (λ k g. unit_among i k (k == i)) e s pb
    (rw (one_of (suc m) i z l) (low_same (z i) b.num b.den d.den q)) (rw (one_of (suc m) i z l) (high_same (z i) b.num b.den d.den q))

-- ---- x log x of one component
-- a form whose value is that of x log x, and whose slopes are its slope times those of the fraction
pub mixing_sloped : (m i : ℕ) (z : ℕ → ℤ) (d : Steps) (b : Fraction) (by : Ends) (u v : LogSum) (f : Form) → m ≤ 3 → i < suc m →
    ((j : ℕ) → j < m → d.step j ≡ z j) →
    int_sum_below (suc m) z ≡ pos 0 → IsFraction b → IsSame b (over_den (z i) d.den) → IsIn f.at u → MeanValue by b u v →
    ((j : ℕ) → j < 4 → ((slope_of f j).lo ≤ℤ (product_span (free_ends m (unit_ends_at i) j) by).lo) × ((product_span (free_ends m (unit_ends_at i) j) by).hi ≤ℤ (slope_of f j).hi)) →
    IsSloped f d u v
mixing_sloped m i z d b by u v f h l e s pb q at mean inside =
    let x = free_ends m (unit_ends_at i) in
    let r = λ (j : ℕ). product_span (x j) by in
    sloped f d u v r at inside
    (mean_moves u v r (λ c k j g t w. slope_times (x j) by t c w k) mean (coordinate_moves m i z d b h l e s pb q))

-- ---- the packing
abbrev pub packing_form : ℤ → ℤ → ℤ → Form
packing_form at lo hi = record { at = ends at at; over = ends lo hi; by = no_ends ∷ no_ends ∷ no_ends ∷ unit_ends ∷ [] }

packing_moves : (d : Steps) (b : Fraction) → IsFraction b → IsSame b (over_den (d.step 3) d.den) → Moves (constant b) (unit_ends_at 3) d
packing_moves d b pb q =
    exact_moves (unit_ends_at 3) (unit_at 3) 1 d b (omega arith) (λ j l. unit_among 3 j (j == 3)) pb
    (rw (one_of 4 3 d.step (omega arith)) (low_same (d.step 3) b.num b.den d.den q))
    (rw (one_of 4 3 d.step (omega arith)) (high_same (d.step 3) b.num b.den d.den q))

pub packing_means : (at lo hi : ℤ) (d : Steps) (x y : Fraction) → IsBetween (ends at at) (2 ^ 40) x → IsBetween (ends lo hi) (2 ^ 40) x →
    IsBetween (ends lo hi) (2 ^ 40) y →
    IsSame (difference y x) (over_den (d.step 3) d.den) → Means (packing_form at lo hi) d (constant x) (constant y)
packing_means at lo hi d x y a c p q = record {
  sloped = sloped (packing_form at lo hi) d (constant x) (constant y) (unit_ends_at 3) (in_fraction (ends at at) x a) inside
      (packing_moves d (difference y x) (product_pos y.den x.den p.is_fraction a.is_fraction) q);
  over_centre = in_fraction (ends lo hi) x c;
  over_point = in_fraction (ends lo hi) y p;
}
  where
    inside : (j : ℕ) → j < 4 →
        ((slope_of (packing_form at lo hi) j).lo ≤ℤ (unit_ends_at 3 j).lo) × ((unit_ends_at 3 j).hi ≤ℤ (slope_of (packing_form at lo hi) j).hi)
    inside zero l = (omega (arith, ints), omega (arith, ints))
    inside (suc zero) l = (omega (arith, ints), omega (arith, ints))
    inside (suc (suc zero)) l = (omega (arith, ints), omega (arith, ints))
    inside (suc (suc (suc zero))) l = (omega (arith, ints), omega (arith, ints))
    inside (suc (suc (suc (suc j)))) l = absurd (omega (arith, l))
