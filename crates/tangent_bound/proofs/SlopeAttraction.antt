-- The form of the mean attraction means the mean attraction, lifted.
use Rattle.std.proofs.Common.{ℕ, ◌-◌, ◌^◌, ◌≤◌, ◌<◌, ◌≡◌, refl, sym, ap, ap₂, subst, arith, lit<, ℤ, pos, Option, Some, None}
use Rattle.std.proofs.lemmas.Int.{ints}
use Rattle.log_laws.specs.Between.{Ends, IsBetween}
use Rattle.log_laws.specs.Fraction.{Fraction, IsFraction, difference, product_of, sum_of, whole}
use Rattle.log_laws.specs.Interval.{ends}
use Rattle.log_laws.specs.LogSum.{constant, ratio}
use Rattle.log_laws.specs.Sums.{fraction_sum_below}
use Rattle.log_laws.proofs.Exports.{either, either_is, either_turned, mean, mean_either, mean_fraction, pair_lifted, pair_mean, pairs_either, product_pos, row_factored, row_joined, row_sum}
use Rattle.fix_interval.proofs.Exports.{IsBetween-same, IsBetween-sum_of}
use Rattle.case_types.specs.declared.cases.Case.{Case}
use Rattle.case_types.specs.Arithmetic.Bounds.{attraction_low, attraction_high}
use Rattle.case_types.specs.Arithmetic.Faults.{fault_of}
use Rattle.case_types.specs.Arithmetic.Holding.{HoldsParameters, IsInBox}
use Rattle.case_types.specs.Arithmetic.Numbers.{Numbers, enclosures_of, numbers_of}
use Rattle.case_types.specs.Arithmetic.Tables.{ends_of_pair}
use Rattle.case_types.specs.Energy.Divisions.{State, mean_attraction, moles, mole_fraction}
use Rattle.case_types.specs.Energy.Instances.{Instance, IsInstance}
use Rattle.case_types.specs.Energy.Parameters.{attraction}
use Rattle.case_types.specs.Grid.Cells.{Region, box_of_region}
use Rattle.slope_form.specs.Arithmetic.{both, capped, product_of_ends, sum_of_ends}
use Rattle.slope_form.specs.Forms.{Form, point_ends}
use Rattle.slope_form.specs.Meaning.{Steps}
use Rattle.slope_form.proofs.Exports.{Moves, both_some, capped_some, free_ends, in_fraction, in_same, number_times, product_some, sum_some}
use Rattle.pr_params.proofs.Exports.{attraction_turned, count_of, mean_attraction_held}
use Rattle.tangent_bound.specs.SlopeLows.{attraction_form, centre, fraction_ends, lifted_attraction, mix_form, outward, sum_of_all}
use Rattle.tangent_bound.proofs.SlopeMeans.{pairs_move}
use Rattle.tangent_bound.proofs.SlopeParts.{Shows, middle_state}
use Rattle.tangent_bound.proofs.SlopeScales.{outward_lifted, point_between}
use Rattle.tangent_bound.proofs.SlopeSteps.{AreSteps}
use Rattle.tangent_bound.proofs.SlopeSums.{between_capped, capped_fit, chosen, chosen_holds, chosen_is, mix_is_form, mix_sloped, mix_some, sum_between, sum_fit}

-- ---- the form of the mean over all pairs, of numbers between the ends b
-- of two components in the mean at the middle
abbrev pub pair_term : ℕ → Region → (ℕ → ℕ → Ends) → ℕ → ℕ → Option Ends
pair_term n r b i j = both product_of_ends (product_of_ends (point_ends (centre n r i)) (point_ends (centre n r j))) (Some (b i j))

-- of one in the number of the other
abbrev pub row_term : ℕ → Region → (ℕ → ℕ → Ends) → ℕ → ℕ → Option Ends
row_term n r b i j = both product_of_ends (Some (b i j)) (sum_of_ends (point_ends (centre n r j)) (fraction_ends n r j))

pub pair_form : ℕ → Region → Ends → (ℕ → ℕ → Ends) → Option Form
pair_form n r range b =
    mix_form n (sum_of_all n (λ i. sum_of_all n (pair_term n r b i))) (capped range.lo range.hi) (λ i. sum_of_all n (row_term n r b i))

-- the fraction of the middle
centre_between : (n : ℕ) (r : Region) (i : ℕ) → moles n (middle_state n r) ≡ 2 ^ 40 → IsBetween (point_ends (centre n r i)) (2 ^ 40) (mole_fraction n (middle_state n r) i)
centre_between n r i all = subst (λ (m : ℕ). IsBetween (point_ends (centre n r i)) (2 ^ 40) (ratio (centre n r i) m)) (sym all) (point_between (centre n r i))

-- the fraction of a state of the box
fraction_between : (n : ℕ) (r : Region) (g : State) (i : ℕ) → 0 < moles n g → IsInBox n (box_of_region n r) g → i < n → IsBetween (fraction_ends n r i) (2 ^ 40) (mole_fraction n g i)
fraction_between n r g i pg inside l =
    let a = inside.above i l in
    let b = inside.below i l in
    record { is_fraction = pg; above = omega (arith, ints, a); below = omega (arith, ints, b) }

pair_between : (n : ℕ) (r : Region) (b : ℕ → ℕ → Ends) (a : ℕ → ℕ → Fraction) (i j : ℕ) (w : Ends) → moles n (middle_state n r) ≡ 2 ^ 40 → IsBetween (b i j) (2 ^ 40) (a i j) → pair_term n r b i j ≡ Some w →
    IsBetween w (2 ^ 40) (product_of (product_of (mole_fraction n (middle_state n r) i) (mole_fraction n (middle_state n r) j)) (a i j))
pair_between n r b a i j w all among h =
    let q = both_some product_of_ends (product_of_ends (point_ends (centre n r i)) (point_ends (centre n r j))) (Some (b i j)) w h in
    let u = q.0 in
    let e : q.1 ≡ b i j = cc in
    let x = mole_fraction n (middle_state n r) in
    let first = between_capped _ _ u (product_of (x i) (x j)) (product_some (point_ends (centre n r i)) (point_ends (centre n r j)) u q.2)
    (number_times (point_ends (centre n r i)) (point_ends (centre n r j)) (x i) (x j) (centre_between n r i all) (centre_between n r j all)) in
    between_capped _ _ w (product_of (product_of (x i) (x j)) (a i j)) (product_some u (b i j) w (rw e at q.4)) (number_times u (b i j) (product_of (x i) (x j)) (a i j) first among)

row_between : (n : ℕ) (r : Region) (g : State) (b : ℕ → ℕ → Ends) (a : ℕ → ℕ → Fraction) (i j : ℕ) (w : Ends) → moles n (middle_state n r) ≡ 2 ^ 40 → 0 < moles n g → IsInBox n (box_of_region n r) g → j < n →
    IsBetween (b i j) (2 ^ 40) (a i j) → row_term n r b i j ≡ Some w → IsBetween w (2 ^ 40) (product_of (a i j) (sum_of (mole_fraction n (middle_state n r) j) (mole_fraction n g j)))
row_between n r g b a i j w all pg inside l among h =
    let q = both_some product_of_ends (Some (b i j)) (sum_of_ends (point_ends (centre n r j)) (fraction_ends n r j)) w h in
    let u = q.1 in
    let e : q.0 ≡ b i j = cc in
    let x = mole_fraction n (middle_state n r) j in
    let y = mole_fraction n g j in
    let second = between_capped _ _ u (sum_of x y) (sum_some (point_ends (centre n r j)) (fraction_ends n r j) u q.3)
    (IsBetween-sum_of (point_ends (centre n r j)) (fraction_ends n r j) (2 ^ 40) x y (centre_between n r j all) (fraction_between n r g j pg inside l)) in
    between_capped _ _ w (product_of (a i j) (sum_of x y)) (product_some (b i j) u w (rw e at q.4)) (number_times (b i j) u (a i j) (sum_of x y) among second)

-- numbers a between the ends b, the same either way round, whose means at the middle and at the state g lie in a range
pub pairs_show : (n : ℕ) (r : Region) (g : State) (d : Steps) (z : ℕ → ℤ) (range : Ends) (b : ℕ → ℕ → Ends) (a : ℕ → ℕ → Fraction) → 0 < n → n ≤ 4 → moles n (middle_state n r) ≡ 2 ^ 40 → 0 < moles n g →
    AreSteps n (middle_state n r) g d z → IsInBox n (box_of_region n r) g → ((i j : ℕ) → i < n → j < n → IsBetween (b i j) (2 ^ 40) (a i j)) → ((i j : ℕ) → i < n → j < n → a i j ≡ a j i) →
    IsBetween range (2 ^ 40) (pair_mean n (mole_fraction n (middle_state n r)) a) → IsBetween range (2 ^ 40) (pair_mean n (mole_fraction n g) a) →
    Shows (pair_form n r range b) d (constant (pair_mean n (mole_fraction n (middle_state n r)) a)) (constant (pair_mean n (mole_fraction n g) a))
unfolding pair_form
pairs_show n r g d z range b a some few all pg steps inside among turned over_c over_g = record {
  form = λ h e. mix_is_form n at over v h (mix_some n at over v h e) (λ e q. sum_fit n rows e q) (λ e q. capped_fit range.lo range.hi e q);
  means = λ h e.
      let p = mix_some n at over v h e in
      let c = capped_some range.lo range.hi h.over p.over in record {
        sloped = mix_sloped n at over v w (constant (pair_mean n x a)) (constant (pair_mean n y a)) d h p (λ i e q. chosen_is (v i) (row_sum n y x a i) e q)
            (in_fraction h.at (pair_mean n x a) (sum_between n rows (λ i. product_of (x i) (mean n x (a i))) h.at p.at at_row)) moved;
        over_centre = in_same range h.over (constant (pair_mean n x a)) c (in_fraction range (pair_mean n x a) over_c);
        over_point = in_same range h.over (constant (pair_mean n y a)) c (in_fraction range (pair_mean n y a) over_g);
      };
}
  where
    x : ℕ → Fraction
    x = mole_fraction n (middle_state n r)

    y : ℕ → Fraction
    y = mole_fraction n g

    px : 0 < moles n (middle_state n r)
    px = rw all (lit< tt)

    rows : ℕ → Option Ends
    rows i = sum_of_all n (pair_term n r b i)

    at : Option Ends
    at = sum_of_all n rows

    over : Option Ends
    over = capped range.lo range.hi

    v : ℕ → Option Ends
    v i = sum_of_all n (row_term n r b i)

    w : ℕ → Ends
    w i = chosen (v i) (row_sum n y x a i)

    pa : (i j : ℕ) → i < n → j < n → IsFraction (a i j)
    pa i j l k = (among i j l k).is_fraction

    at_row : (i : ℕ) (e : Ends) → i < n → rows i ≡ Some e → IsBetween e (2 ^ 40) (product_of (x i) (mean n x (a i)))
    at_row i e l q =
        IsBetween-same e (2 ^ 40) (fraction_sum_below n (λ j. product_of (product_of (x i) (x j)) (a i j))) (product_of (x i) (mean n x (a i)))
        (product_pos (moles n (middle_state n r)) (mean n x (a i)).den px (mean_fraction n x (a i) (λ j k. px) (λ j k. pa i j l k)))
        (row_factored n x (a i) (x i) (λ j k. px) (λ j k. pa i j l k) px)
        (sum_between n (pair_term n r b i) (λ j. product_of (product_of (x i) (x j)) (a i j)) e q (λ j e k q. pair_between n r b a i j e all (among i j l k) q))

    sum_positive : (i : ℕ) → i < n → IsFraction (row_sum n y x a i)
    sum_positive i l = product_pos (mean n y (a i)).den (mean n x (a i)).den (mean_fraction n y (a i) (λ j k. pg) (λ j k. pa i j l k)) (mean_fraction n x (a i) (λ j k. px) (λ j k. pa i j l k))

    row : (i : ℕ) (e : Ends) → i < n → v i ≡ Some e → IsBetween e (2 ^ 40) (row_sum n y x a i)
    row i e l q =
        IsBetween-same e (2 ^ 40) (fraction_sum_below n (λ j. product_of (a i j) (sum_of (x j) (y j)))) (row_sum n y x a i) (sum_positive i l)
        (row_joined n y x (a i) (λ j k. pg) (λ j k. px) (λ j k. pa i j l k))
        (sum_between n (row_term n r b i) (λ j. product_of (a i j) (sum_of (x j) (y j))) e q (λ j e k q. row_between n r g b a i j e all pg inside k (among i j l k) q))

    moved : Moves (constant (difference (pair_mean n y a) (pair_mean n x a))) (free_ends (n - 1) w) d
    moved =
        subst (λ (f : Fraction). Moves (constant f) (free_ends (n - 1) w) d)
        (ap₂ (λ (s t : Fraction). difference s t) (pairs_either n y a turned) (pairs_either n x a turned))
        (pairs_move n (middle_state n r) g d z (either a) w some few px pg steps (λ i j l k. rw (either_is a i j (turned i j l k)) (pa i j l k)) (either_turned a)
        (λ i l. subst (IsBetween (w i) (2 ^ 40)) (sym (ap₂ (λ (s t : Fraction). sum_of s t) (mean_either n y a i l turned) (mean_either n x a i l turned)))
        (chosen_holds (v i) (row_sum n y x a i) (sum_positive i l) (λ e q. row i e l q))))

-- ---- the attractions
form_is : (p : Numbers) (r : Region) (n : ℕ) → p.count ≡ n →
    attraction_form p r ≡ pair_form n r (outward 9 (ends (attraction_low p (box_of_region n r)) (attraction_high p (box_of_region n r)))) (lifted_attraction p)
unfolding attraction_form pair_form
form_is p r n e =
    ap (λ (m : ℕ). mix_form m (sum_of_all m (λ i. sum_of_all m (pair_term m r (lifted_attraction p) i)))
    (capped (outward 9 (ends (attraction_low p (box_of_region m r)) (attraction_high p (box_of_region m r)))).lo (outward 9 (ends (attraction_low p (box_of_region m r)) (attraction_high p (box_of_region m r)))).hi)
    (λ i. sum_of_all m (row_term m r (lifted_attraction p) i))) e

pub attraction_shows : (c : Case) (x : Instance) (r : Region) (g : State) (d : Steps) (z : ℕ → ℤ) → fault_of c ≡ None → IsInstance c (enclosures_of c) x → HoldsParameters c (numbers_of c) x →
    moles c.n (middle_state c.n r) ≡ 2 ^ 40 → 0 < moles c.n g → AreSteps c.n (middle_state c.n r) g d z → IsInBox c.n (box_of_region c.n r) (middle_state c.n r) → IsInBox c.n (box_of_region c.n r) g →
    Shows (attraction_form (numbers_of c) r) d (constant (product_of (mean_attraction c x (middle_state c.n r)) (whole (pos (2 ^ (numbers_of c).lift)))))
    (constant (product_of (mean_attraction c x g) (whole (pos (2 ^ (numbers_of c).lift)))))
attraction_shows c x r g d z accepted inst holds all pg steps in_c in_g =
    let p = numbers_of c in
    let k = 2 ^ p.lift in
    let range = ends (attraction_low p (box_of_region c.n r)) (attraction_high p (box_of_region c.n r)) in
    let a : ℕ → ℕ → Fraction = λ i j. product_of (attraction c x i j) (whole (pos k)) in
    let is : (f : State) → pair_mean c.n (mole_fraction c.n f) a ≡ product_of (mean_attraction c x f) (whole (pos k)) = λ f. pair_lifted c.n (mole_fraction c.n f) (attraction c x) k in
    let some = c.some in
    let few = c.few in
    let held : (f : State) → IsInBox c.n (box_of_region c.n r) f → 0 < moles c.n f → IsBetween (outward 9 range) (2 ^ 40) (pair_mean c.n (mole_fraction c.n f) a) =
    λ f inside pf. subst (IsBetween (outward 9 range) (2 ^ 40)) (sym (is f))
    (outward_lifted 49 9 p.lift range (mean_attraction c x f) refl (mean_attraction_held c x (box_of_region c.n r) f accepted holds inside pf)) in
    let shown = pairs_show c.n r g d z (outward 9 range) (lifted_attraction p) a some few all pg steps in_g
    (λ i j l h. outward_lifted 49 9 p.lift (ends_of_pair p.attractions i j) (attraction c x i j) refl (holds.attraction i j l h))
    (λ i j l h. ap (λ (f : Fraction). product_of f (whole (pos k))) (attraction_turned c (enclosures_of c) x i j inst l h))
    (held (middle_state c.n r) in_c (rw all (lit< tt))) (held g in_g pg) in
    subst (λ (q : Option Form). Shows q d (constant (product_of (mean_attraction c x (middle_state c.n r)) (whole (pos k)))) (constant (product_of (mean_attraction c x g) (whole (pos k))))) (sym (form_is p r c.n (count_of c)))
    (rw (is (middle_state c.n r), is g) at shown)
