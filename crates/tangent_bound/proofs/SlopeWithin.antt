-- The steps of a state of a cell lie between those to the ends of the cell; and the low of a form is the same with the ends of the
-- steps in order.
use Rattle.std.proofs.Common.{ℕ, ◌+◌, ◌-◌, ◌*◌, ◌/◌, ◌^◌, ◌≤◌, ◌<◌, ◌≡◌, ◌==◌, false, refl, ap, arith, inl, inr, ℤ, pos, negsuc, ◌+ℤ◌, ◌-ℤ◌, ◌*ℤ◌, ◌≤ℤ◌, ◌<ℤ◌, slice_index}
use Rattle.std.specs.Int.{int_min, int_max}
use Rattle.std.proofs.Math.IntN.{zero-*ℤ}
use Rattle.std.proofs.lemmas.Bool.{cases_lt}
use Rattle.std.proofs.lemmas.Int.{ints, clamps}
use Rattle.log_laws.specs.Between.{Ends}
use Rattle.log_laws.specs.Whole.{positive_part, floor_over}
use Rattle.log_laws.proofs.Exports.{either_sign, mul-le_ℤ, sum-same, ≤ℤ_trans}
use Rattle.fix_interval.specs.Extremes.{least_of_four}
use Rattle.case_types.specs.Arithmetic.Bounds.{one}
use Rattle.case_types.specs.Energy.Divisions.{State, IsState, moles}
use Rattle.case_types.specs.Grid.Cells.{Region, IsWithin, middle_of}
use Rattle.slope_form.specs.Forms.{Form, slope_of}
use Rattle.slope_form.specs.Meaning.{least_step, low_of}
use Rattle.slope_form.proofs.Exports.{gap, gap_above, gap_below}
use Rattle.tangent_bound.specs.SlopeLows.{step_from, step_to}
use Rattle.tangent_bound.proofs.SlopeMiddle.{centre_free}
use Rattle.tangent_bound.proofs.SlopeSteps.{free_is, packing_is, steps_to, unused_is}

-- ---- the ends of the steps in order
abbrev pub least_end : Region → ℕ → ℤ
least_end r j = int_min (step_from r j) (step_to r j)

abbrev pub greatest_end : Region → ℕ → ℤ
greatest_end r j = int_max (step_from r j) (step_to r j)

-- z over 2^40 lies between them over the denominator m
pub record IsStepBetween (a b z : ℤ) (m : ℕ) : Type 0 where
  pub above : (int_min a b *ℤ pos m) ≤ℤ (z *ℤ pos (2 ^ 40))
  pub below : (z *ℤ pos (2 ^ 40)) ≤ℤ (int_max a b *ℤ pos m)

ordered_between : (a b z : ℤ) (m : ℕ) → (a *ℤ pos m) ≤ℤ (z *ℤ pos (2 ^ 40)) → (z *ℤ pos (2 ^ 40)) ≤ℤ (b *ℤ pos m) → IsStepBetween a b z m
ordered_between a b z m h l = record {
  above = ≤ℤ_trans (int_min a b *ℤ pos m) (a *ℤ pos m) (z *ℤ pos (2 ^ 40)) (mul-le_ℤ (int_min a b) a m (omega (arith, ints, clamps))) h;
  below = ≤ℤ_trans (z *ℤ pos (2 ^ 40)) (b *ℤ pos m) (int_max a b *ℤ pos m) l (mul-le_ℤ b (int_max a b) m (omega (arith, ints, clamps)));
}

nothing_between : (l h m : ℕ) → IsStepBetween (pos (l * 2 ^ 20) -ℤ pos ((l + h) / 2 * 2 ^ 20)) (pos (h * 2 ^ 20) -ℤ pos ((l + h) / 2 * 2 ^ 20)) (pos 0) m
nothing_between l h m =
    let a = pos (l * 2 ^ 20) -ℤ pos ((l + h) / 2 * 2 ^ 20) in
    let b = pos (h * 2 ^ 20) -ℤ pos ((l + h) / 2 * 2 ^ 20) in
    record {
      above = rw (zero-*ℤ (pos (2 ^ 40)), ← zero-*ℤ (pos m)) (mul-le_ℤ (int_min a b) (pos 0) m (omega (arith, ints, clamps)));
      below = rw (zero-*ℤ (pos (2 ^ 40)), ← zero-*ℤ (pos m)) (mul-le_ℤ (pos 0) (int_max a b) m (omega (arith, ints, clamps)));
    }

-- ---- each edge
not_packing : (j : ℕ) → j < 3 → (j == 3) ≡ false
not_packing j h = grind (arith, h)

module _ (n : ℕ) (r : Region) (f : State) (s : IsState n f) (few : n ≤ 4) (within : IsWithin n r f) where
  free_between : (j : ℕ) → j < n - 1 → IsStepBetween (step_from r j) (step_to r j) ((steps_to n r f s).step j) (steps_to n r f s).den
  free_between j h =
      let above = within.above j h in
      let below = within.below j h in
      let p = f.parts j in
      let w = moles n f in
      let k = f.packing.den in
      let c = middle_of r j * 2 ^ 20 in
      rw (free_is n r f s j few h, not_packing j (omega (arith, h, few)), centre_free n r j few h)
      (ordered_between (pos (slice_index r.lo j * 2 ^ 20) -ℤ pos c) (pos (slice_index r.hi j * 2 ^ 20) -ℤ pos c) (gap p w c (2 ^ 40) k) (w * 2 ^ 40 * k)
      (gap_above (slice_index r.lo j * 2 ^ 20) p w c (2 ^ 40) k (omega (arith, above)))
      (gap_below (slice_index r.hi j * 2 ^ 20) p w c (2 ^ 40) k (omega (arith, below))))

  unused_between : (j : ℕ) → n - 1 ≤ j → j < 3 → IsStepBetween (step_from r j) (step_to r j) ((steps_to n r f s).step j) (steps_to n r f s).den
  unused_between j h l =
      rw (unused_is n r f s j h l, not_packing j l) (nothing_between (slice_index r.lo j) (slice_index r.hi j) (moles n f * 2 ^ 40 * f.packing.den))

  packing_between : IsStepBetween (step_from r 3) (step_to r 3) ((steps_to n r f s).step 3) (steps_to n r f s).den
  packing_between =
      let c = (r.ylo + r.yhi) / 2 in
      let w = moles n f in
      let k = f.packing.den in
      let y = positive_part f.packing.num in
      let turned : w * 2 ^ 40 * k ≡ k * 2 ^ 40 * w = omega arith in
      rw (packing_is n r f s, turned)
      (ordered_between (pos r.ylo -ℤ pos c) (pos r.yhi -ℤ pos c) (gap y k c (2 ^ 40) w) (k * 2 ^ 40 * w)
      (gap_above r.ylo y k c (2 ^ 40) w (denser f.packing.num r.ylo k s.not_empty within.denser))
      (gap_below r.yhi y k c (2 ^ 40) w (thinner f.packing.num r.yhi k s.not_empty within.thinner)))
    where
      denser : (z : ℤ) (a k : ℕ) → pos 0 <ℤ z → pos (a * k) ≤ℤ (z *ℤ pos one) → a * k ≤ positive_part z * 2 ^ 40
      denser (pos y) a k h l = omega (arith, ints, l)
      denser (negsuc y) a k h l = absurd (omega (arith, ints, h))

      thinner : (z : ℤ) (a k : ℕ) → pos 0 <ℤ z → (z *ℤ pos one) ≤ℤ pos (a * k) → positive_part z * 2 ^ 40 ≤ a * k
      thinner (pos y) a k h l = omega (arith, ints, l)
      thinner (negsuc y) a k h l = absurd (omega (arith, ints, h))

  pub step_between : (j : ℕ) → j < 4 → IsStepBetween (step_from r j) (step_to r j) ((steps_to n r f s).step j) (steps_to n r f s).den
  step_between j h =
      elim (cases_lt j 3) [
        | inl l ↦ elim (cases_lt j (n - 1)) [ inl free ↦ free_between j free | inr unused ↦ unused_between j unused l ]
        | inr l ↦ let e : j ≡ 3 = omega (arith, h, l) in rw e packing_between
      ]

-- ---- the low with the ends in order
ends_in_order : (by : Ends) (a b : ℤ) → least_step by (int_min a b) (int_max a b) ≡ least_step by a b
ends_in_order by a b =
    elim (either_sign (b -ℤ a)) [
      | inl h ↦ same (int_min a b) (int_max a b) (omega (arith, ints, clamps, h)) (omega (arith, ints, clamps, h))
      | inr h ↦ turned (int_min a b) (int_max a b) (omega (arith, ints, clamps, h)) (omega (arith, ints, clamps, h))
    ]
  where
    same : (x y : ℤ) → x ≡ a → y ≡ b → least_step by x y ≡ least_step by a b
    same x y e g = rw (e, g) refl

    symmetric : (p q u v : ℤ) → least_of_four q p v u ≡ least_of_four p q u v
    symmetric p q u v = omega (arith, ints, clamps)

    turned : (x y : ℤ) → x ≡ b → y ≡ a → least_step by x y ≡ least_step by a b
    turned x y e g = rw (e, g) (ap (λ (z : ℤ). floor_over z (2 ^ 40)) (symmetric (by.lo *ℤ a) (by.lo *ℤ b) (by.hi *ℤ a) (by.hi *ℤ b)))

pub low_in_order : (f : Form) (r : Region) → low_of f (least_end r) (greatest_end r) ≡ low_of f (step_from r) (step_to r)
low_in_order f r =
    ap (λ (z : ℤ). f.at.lo +ℤ z)
    (sum-same 4 (λ j. least_step (slope_of f j) (least_end r j) (greatest_end r j)) (λ j. least_step (slope_of f j) (step_from r j) (step_to r j))
    (λ j h. ends_in_order (slope_of f j) (step_from r j) (step_to r j)))
