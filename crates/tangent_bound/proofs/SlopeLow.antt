-- The slope low of a cell: at every state of the cell the energy of a mole is at least the low and the plane.
use Rattle.std.proofs.Common.{ℕ, ◌+◌, ◌*◌, ◌^◌, ◌≤◌, ◌<◌, ◌≡◌, ◌∙◌, subst, arith, lit<, List, ℤ, pos, ◌+ℤ◌, ◌*ℤ◌, ◌≤ℤ◌, Some, None, IsFalse, slice_index}
use Rattle.std.proofs.lemmas.Int.{ints}
use Rattle.log_laws.specs.Fraction.{IsFraction, sum_of}
use Rattle.log_laws.specs.LogSum.{LogSum, AtLeast, IsPositive}
use Rattle.log_laws.proofs.Exports.{add-mul_ℤ, at_least_lowers, product_pos, scale_scale}
use Rattle.case_types.specs.declared.cases.Case.{Case}
use Rattle.case_types.specs.Arithmetic.Bounds.{one, plane_sum, potential}
use Rattle.case_types.specs.Arithmetic.Faults.{fault_of}
use Rattle.case_types.specs.Arithmetic.Numbers.{numbers_of, enclosures_of}
use Rattle.case_types.specs.Energy.Divisions.{State, IsState, moles, mean_attraction, mean_covolume, energy_of}
use Rattle.case_types.specs.Energy.Instances.{Instance, IsInstance}
use Rattle.case_types.specs.Energy.Weighing.{IsAbovePlane}
use Rattle.case_types.specs.Grid.Cells.{Region, IsWithin, box_of_region, misses}
use Rattle.case_types.proofs.Exports.{in_box}
use Rattle.slope_form.specs.Meaning.{bits_of}
use Rattle.pr_params.proofs.Exports.{count_of, covolume_positive, holds_parameters, mean_attraction_is_fraction, mean_covolume_held, range_least}
use Rattle.tangent_bound.specs.SlopeLows.{slope_low}
use Rattle.tangent_bound.proofs.CellValues.{cell_low_holds, cell_value}
use Rattle.tangent_bound.proofs.PartsShown.{parts_show}
use Rattle.tangent_bound.proofs.SlopeConstants.{constants_held, constants_of}
use Rattle.tangent_bound.proofs.SlopeEnergy.{energy_above}
use Rattle.tangent_bound.proofs.SlopeParts.{PartsShow, middle_state, parts_of, values_at}
use Rattle.tangent_bound.proofs.SlopeSteps.{steps_to}
use Rattle.tangent_bound.proofs.SlopeThere.{HasMiddle, has_middle, low_is_of, packing_room}
use Rattle.tangent_bound.proofs.SlopeWithin.{greatest_end, least_end, low_in_order, step_between}

-- ---- the low and the plane, over one denominator
above_plane : (s : LogSum) (sum low : ℤ) (w : ℕ) → 0 < w → AtLeast s (sum_of (bits_of low) (record { num = sum; den = w * one })) →
    AtLeast s (record { num = sum +ℤ low *ℤ pos w; den = w * 2 ^ 40 })
above_plane s sum low w some h =
    at_least_lowers s (sum_of (bits_of low) (record { num = sum; den = w * one })) (record { num = sum +ℤ low *ℤ pos w; den = w * 2 ^ 40 })
    (product_pos w (2 ^ 40) some (lit< tt)) not_more h
  where
    not_more : ((sum +ℤ low *ℤ pos w) *ℤ pos (2 ^ 40 * (w * 2 ^ 40))) ≤ℤ ((low *ℤ pos (w * 2 ^ 40) +ℤ sum *ℤ pos (2 ^ 40)) *ℤ pos (w * 2 ^ 40))
    not_more =
        let e : w * 2 ^ 40 * (w * 2 ^ 40) ≡ w * (2 ^ 40 * (w * 2 ^ 40)) = omega arith in
        rw (
          add-mul_ℤ sum (low *ℤ pos w) (pos (2 ^ 40 * (w * 2 ^ 40))),
          add-mul_ℤ (low *ℤ pos (w * 2 ^ 40)) (sum *ℤ pos (2 ^ 40)) (pos (w * 2 ^ 40)),
          scale_scale low w (2 ^ 40 * (w * 2 ^ 40)),
          scale_scale low (w * 2 ^ 40) (w * 2 ^ 40),
          scale_scale sum (2 ^ 40) (w * 2 ^ 40),
          e,
        ) (omega (arith, ints))

-- ---- the means of a state of the cell
module _ (c : Case) (x : Instance) (r : Region) (f : State) (accepted : fault_of c ≡ None) (inst : IsInstance c (enclosures_of c) x) (state : IsState c.n f) (within : IsWithin c.n r f) where
  covolume_there : IsPositive (mean_covolume c f)
  covolume_there =
      let box = box_of_region c.n r in
      covolume_positive _ (2 ^ (56 + (numbers_of c).lift)) (mean_covolume c f) (range_least c box accepted)
      (mean_covolume_held c box f accepted (in_box c.n r f c.few state.some within) state.some)

  attraction_there : IsFraction (mean_attraction c x f)
  attraction_there = mean_attraction_is_fraction c (numbers_of c) x f (holds_parameters c x accepted inst) state.some

  -- from what the parts of the cell's form show
  low_from_parts : (lams : List ℤ) (low : ℤ) → slope_low (numbers_of c) lams r ≡ Some low →
      PartsShow (parts_of (numbers_of c) lams r) (steps_to c.n r f state) (values_at c x lams (middle_state c.n r)) (values_at c x lams f) →
      IsAbovePlane c.n (energy_of c x) (potential lams) low f
  low_from_parts lams low is shows =
      let p = numbers_of c in
      let v = values_at c x lams f in
      let there = low_is_of p lams r low is in
      let h = there.0 in
      let value = cell_low_holds p lams r (constants_of c x) (steps_to c.n r f state) (values_at c x lams (middle_state c.n r)) v h (least_end r) (greatest_end r)
      (constants_held c x accepted inst) shows there.1
      (λ j l. (let b = step_between c.n r f state c.few within j l in (b.above, b.below))) in
      let bound = subst (λ (z : ℤ). AtLeast (cell_value (constants_of c x) v) (bits_of z)) (low_in_order h r ∙ there.2) value in
      record {
        at_least = above_plane (energy_of c x f) (plane_sum c.n (potential lams) f.parts) low (moles c.n f) state.some
            (energy_above c x lams f (bits_of low) accepted inst state covolume_there attraction_there bound);
      }

-- ---- the middle of a cell that has a slope low
middle_there : (c : Case) (r : Region) (lams : List ℤ) (low : ℤ) → slope_low (numbers_of c) lams r ≡ Some low → r.ylo ≤ one → r.yhi ≤ one → HasMiddle c.n r
middle_there c r lams low is ylo yhi =
    let there = low_is_of (numbers_of c) lams r low is in
    subst (λ (n : ℕ). HasMiddle n r) (count_of c)
    (has_middle (numbers_of c) lams r there.0 (rw (count_of c) c.some) (rw (count_of c) c.few) ylo yhi there.1)

-- ---- the slope low
pub slope_low_holds : (c : Case) (x : Instance) (lams : List ℤ) (r : Region) (low : ℤ) (f : State) → fault_of c ≡ None → IsInstance c (enclosures_of c) x →
    r.ylo ≤ one → r.yhi ≤ one → ((i : ℕ) → slice_index r.lo i ≤ 2 ^ 20) → ((i : ℕ) → slice_index r.hi i ≤ 2 ^ 20) → IsFalse (misses c.n r) →
    slope_low (numbers_of c) lams r ≡ Some low → IsState c.n f → IsWithin c.n r f → IsAbovePlane c.n (energy_of c x) (potential lams) low f
slope_low_holds c x lams r low f accepted inst ylo yhi lo hi meets is state within =
    let middle = middle_there c r lams low is ylo yhi in
    low_from_parts c x r f accepted inst state within lams low is
    (parts_show c x lams r f accepted inst ylo yhi lo hi meets middle.sum middle.some (packing_room c.n r f yhi state within) state within)
