-- The form of the mean covolume means the mean covolume, lifted or plain.
use Rattle.std.proofs.Common.{ℕ, ◌+◌, ◌^◌, ◌≤◌, ◌<◌, ◌≡◌, refl, sym, ap, subst, lit<, ℤ, pos, Option, Some, None}
use Rattle.log_laws.specs.Between.{Ends, IsBetween}
use Rattle.log_laws.specs.Fraction.{Fraction, product_of, whole}
use Rattle.log_laws.specs.LogSum.{constant, ratio}
use Rattle.log_laws.proofs.Exports.{mean, mean_lifted}
use Rattle.case_types.specs.declared.cases.Case.{Case}
use Rattle.case_types.specs.Arithmetic.Bounds.{covolume_range}
use Rattle.case_types.specs.Arithmetic.Faults.{fault_of}
use Rattle.case_types.specs.Arithmetic.Holding.{HoldsParameters, IsInBox}
use Rattle.case_types.specs.Arithmetic.Numbers.{Numbers, numbers_of}
use Rattle.case_types.specs.Arithmetic.Tables.{ends_at}
use Rattle.case_types.specs.Energy.Divisions.{State, mean_covolume, moles, mole_fraction}
use Rattle.case_types.specs.Energy.Instances.{Instance}
use Rattle.case_types.specs.Energy.Parameters.{covolume}
use Rattle.case_types.specs.Grid.Cells.{Region, box_of_region}
use Rattle.slope_form.specs.Arithmetic.{capped, product_of_ends}
use Rattle.slope_form.specs.Forms.{Form, point_ends}
use Rattle.slope_form.specs.Meaning.{Steps}
use Rattle.slope_form.proofs.Exports.{capped_some, in_fraction, in_same, number_times, product_some}
use Rattle.pr_params.proofs.Exports.{count_of, mean_covolume_held, scale_split}
use Rattle.tangent_bound.specs.SlopeLows.{centre, covolume_form, mix_form, outward, sum_of_all}
use Rattle.tangent_bound.proofs.SlopeMeans.{number_moves}
use Rattle.tangent_bound.proofs.SlopeParts.{Shows, middle_state}
use Rattle.tangent_bound.proofs.SlopeScales.{outward_between, outward_lifted, point_between}
use Rattle.tangent_bound.proofs.SlopeSteps.{AreSteps}
use Rattle.tangent_bound.proofs.SlopeSums.{between_capped, capped_fit, mix_is_form, mix_sloped, mix_some, sum_between, sum_fit}

-- ---- the form of the mean of numbers
pub mean_form : ℕ → Region → Ends → (ℕ → Ends) → Option Form
mean_form n r range b = mix_form n (sum_of_all n (λ i. product_of_ends (point_ends (centre n r i)) (b i))) (capped range.lo range.hi) (λ i. Some (b i))

-- numbers f between the ends b, whose means at the middle and at the state g lie between the ends of a range
pub mean_shows : (n : ℕ) (r : Region) (g : State) (d : Steps) (z : ℕ → ℤ) (range : Ends) (b : ℕ → Ends) (f : ℕ → Fraction) → 0 < n → n ≤ 4 → moles n (middle_state n r) ≡ 2 ^ 40 → 0 < moles n g →
    AreSteps n (middle_state n r) g d z → ((i : ℕ) → i < n → IsBetween (b i) (2 ^ 40) (f i)) →
    IsBetween range (2 ^ 40) (mean n (mole_fraction n (middle_state n r)) f) → IsBetween range (2 ^ 40) (mean n (mole_fraction n g) f) →
    Shows (mean_form n r range b) d (constant (mean n (mole_fraction n (middle_state n r)) f)) (constant (mean n (mole_fraction n g) f))
unfolding mean_form
mean_shows n r g d z range b f some few all pg steps among over_c over_g = record {
  form = λ h e. mix_is_form n at over v h (mix_some n at over v h e) (λ e q. sum_fit n terms e q) (λ e q. capped_fit range.lo range.hi e q);
  means = λ h e.
      let p = mix_some n at over v h e in
      let c = capped_some range.lo range.hi h.over p.over in record {
        sloped = mix_sloped n at over v b (constant (mean n x f)) (constant (mean n y f)) d h p (λ i e q. by_some (b i) e q)
            (in_fraction h.at (mean n x f) (sum_between n terms (λ i. product_of (x i) (f i)) h.at p.at at_each))
            (number_moves n (middle_state n r) g d z f b some few (rw all (lit< tt)) pg steps among);
        over_centre = in_same range h.over (constant (mean n x f)) c (in_fraction range (mean n x f) over_c);
        over_point = in_same range h.over (constant (mean n y f)) c (in_fraction range (mean n y f) over_g);
      };
}
  where
    x : ℕ → Fraction
    x = mole_fraction n (middle_state n r)

    y : ℕ → Fraction
    y = mole_fraction n g

    terms : ℕ → Option Ends
    terms i = product_of_ends (point_ends (centre n r i)) (b i)

    at : Option Ends
    at = sum_of_all n terms

    over : Option Ends
    over = capped range.lo range.hi

    v : ℕ → Option Ends
    v i = Some (b i)

    by_some : (u e : Ends) → Some u ≡ Some e → u ≡ e
    by_some u e q = cc

    at_each : (i : ℕ) (w : Ends) → i < n → terms i ≡ Some w → IsBetween w (2 ^ 40) (product_of (x i) (f i))
    at_each i w l q =
        let c = product_some (point_ends (centre n r i)) (b i) w q in
        let t = number_times (point_ends (centre n r i)) (b i) (ratio (centre n r i) (2 ^ 40)) (f i) (point_between (centre n r i)) (among i l) in
        subst (λ (m : ℕ). IsBetween w (2 ^ 40) (product_of (ratio (centre n r i) m) (f i))) (sym all) (between_capped _ _ w (product_of (ratio (centre n r i) (2 ^ 40)) (f i)) c t)

-- ---- the covolumes
form_is : (p : Numbers) (r : Region) (shift n : ℕ) → p.count ≡ n → covolume_form p r shift ≡ mean_form n r (outward shift (covolume_range p (box_of_region n r))) (λ i. outward shift (ends_at p.covolumes i))
unfolding covolume_form mean_form
form_is p r shift n e =
    ap (λ (m : ℕ). mix_form m (sum_of_all m (λ i. product_of_ends (point_ends (centre m r i)) (outward shift (ends_at p.covolumes i))))
    (capped (outward shift (covolume_range p (box_of_region m r))).lo (outward shift (covolume_range p (box_of_region m r))).hi) (λ i. Some (outward shift (ends_at p.covolumes i)))) e

pub plain_shows : (c : Case) (x : Instance) (r : Region) (g : State) (d : Steps) (z : ℕ → ℤ) → fault_of c ≡ None → HoldsParameters c (numbers_of c) x → moles c.n (middle_state c.n r) ≡ 2 ^ 40 → 0 < moles c.n g →
    AreSteps c.n (middle_state c.n r) g d z → IsInBox c.n (box_of_region c.n r) (middle_state c.n r) → IsInBox c.n (box_of_region c.n r) g →
    Shows (covolume_form (numbers_of c) r (16 + (numbers_of c).lift)) d (constant (mean_covolume c (middle_state c.n r))) (constant (mean_covolume c g))
plain_shows c x r g d z accepted holds all pg steps in_c in_g =
    let p = numbers_of c in
    let shift = 16 + p.lift in
    let scale = scale_split p.lift in
    let some = c.some in
    let few = c.few in
    let held : (f : State) → IsInBox c.n (box_of_region c.n r) f → 0 < moles c.n f → IsBetween (outward shift (covolume_range p (box_of_region c.n r))) (2 ^ 40) (mean_covolume c f) =
    λ f inside pf. outward_between shift (covolume_range p (box_of_region c.n r)) (mean_covolume c f)
    (subst (λ (s : ℕ). IsBetween (covolume_range p (box_of_region c.n r)) s (mean_covolume c f)) scale (mean_covolume_held c (box_of_region c.n r) f accepted inside pf)) in
    subst (λ (q : Option Form). Shows q d (constant (mean_covolume c (middle_state c.n r))) (constant (mean_covolume c g))) (sym (form_is p r shift c.n (count_of c)))
    (mean_shows c.n r g d z (outward shift (covolume_range p (box_of_region c.n r))) (λ i. outward shift (ends_at p.covolumes i)) (covolume c) some few all pg steps
    (λ i l. outward_between shift (ends_at p.covolumes i) (covolume c i) (subst (λ (s : ℕ). IsBetween (ends_at p.covolumes i) s (covolume c i)) scale (holds.covolume i l)))
    (held (middle_state c.n r) in_c (rw all (lit< tt))) (held g in_g pg))

pub lifted_shows : (c : Case) (x : Instance) (r : Region) (g : State) (d : Steps) (z : ℕ → ℤ) → fault_of c ≡ None → HoldsParameters c (numbers_of c) x → moles c.n (middle_state c.n r) ≡ 2 ^ 40 → 0 < moles c.n g →
    AreSteps c.n (middle_state c.n r) g d z → IsInBox c.n (box_of_region c.n r) (middle_state c.n r) → IsInBox c.n (box_of_region c.n r) g →
    Shows (covolume_form (numbers_of c) r 16) d (constant (product_of (mean_covolume c (middle_state c.n r)) (whole (pos (2 ^ (numbers_of c).lift)))))
    (constant (product_of (mean_covolume c g) (whole (pos (2 ^ (numbers_of c).lift)))))
lifted_shows c x r g d z accepted holds all pg steps in_c in_g =
    let p = numbers_of c in
    let k = 2 ^ p.lift in
    let b : ℕ → Fraction = λ i. product_of (covolume c i) (whole (pos k)) in
    let is : (f : State) → mean c.n (mole_fraction c.n f) b ≡ product_of (mean_covolume c f) (whole (pos k)) = λ f. mean_lifted c.n (mole_fraction c.n f) (covolume c) k in
    let some = c.some in
    let few = c.few in
    let held : (f : State) → IsInBox c.n (box_of_region c.n r) f → 0 < moles c.n f → IsBetween (outward 16 (covolume_range p (box_of_region c.n r))) (2 ^ 40) (mean c.n (mole_fraction c.n f) b) =
    λ f inside pf. subst (IsBetween (outward 16 (covolume_range p (box_of_region c.n r))) (2 ^ 40)) (sym (is f))
    (outward_lifted 56 16 p.lift (covolume_range p (box_of_region c.n r)) (mean_covolume c f) refl (mean_covolume_held c (box_of_region c.n r) f accepted inside pf)) in
    let shown = mean_shows c.n r g d z (outward 16 (covolume_range p (box_of_region c.n r))) (λ i. outward 16 (ends_at p.covolumes i)) b some few all pg steps
    (λ i l. outward_lifted 56 16 p.lift (ends_at p.covolumes i) (covolume c i) refl (holds.covolume i l))
    (held (middle_state c.n r) in_c (rw all (lit< tt))) (held g in_g pg) in
    subst (λ (q : Option Form). Shows q d (constant (product_of (mean_covolume c (middle_state c.n r)) (whole (pos k)))) (constant (product_of (mean_covolume c g) (whole (pos k))))) (sym (form_is p r 16 c.n (count_of c)))
    (rw (is (middle_state c.n r), is g) at shown)
