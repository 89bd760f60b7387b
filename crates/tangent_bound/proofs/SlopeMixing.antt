-- The form of the mixing terms means the sum of x log x over the components.
use Rattle.std.proofs.Common.{ℕ, ◌-◌, ◌^◌, ◌≤◌, ◌<◌, ◌≡◌, zero, suc, refl, sym, subst, arith, lit<, ℤ, pos, ◌≤ℤ◌, Option, Some, None, slice_index}
use Rattle.std.specs.Prelude.{option_map}
use Rattle.std.proofs.Math.Nat.{le_of_mul-le-mul_right}
use Rattle.log_laws.specs.Between.{Ends}
use Rattle.log_laws.specs.Fraction.{difference, whole}
use Rattle.log_laws.specs.LogE.{HoldsLogE}
use Rattle.log_laws.specs.LogSum.{LogSum, ratio}
use Rattle.log_laws.specs.Sums.{log_sum_below}
use Rattle.log_laws.proofs.Exports.{product_pos}
use Rattle.case_types.specs.Arithmetic.Holding.{IsInBox}
use Rattle.case_types.specs.Arithmetic.Numbers.{Numbers}
use Rattle.case_types.specs.Arithmetic.Tables.{no_ends}
use Rattle.case_types.specs.Energy.Divisions.{State, mixing, mixing_of, moles, mole_fraction}
use Rattle.case_types.specs.Grid.Cells.{Region, box_of_region}
use Rattle.slope_form.specs.Forms.{Form, x_log_x_ends}
use Rattle.slope_form.specs.Laws.{KeepsXLogX, x_log_x}
use Rattle.slope_form.specs.Meaning.{IsIn, IsSloped, MeanValue, Steps, change}
use Rattle.slope_form.proofs.Exports.{Moves, bends_move, free_ends, x_log_x_kept}
use Rattle.tangent_bound.specs.SlopeLows.{centre, mix_form, mixing_form, sum_of_all}
use Rattle.tangent_bound.proofs.SlopeParts.{ShowsSlope, middle_state}
use Rattle.tangent_bound.proofs.SlopeSteps.{AreSteps}
use Rattle.tangent_bound.proofs.SlopeSums.{MixParts, chosen, chosen_is, mix_is_form, mix_sloped, mix_some, none_fit, sum_fit, sum_in, sum_there}

-- ---- one component: the value of its x log x at the middle, and the slope
abbrev pub mixed : ℕ → Region → Ends → ℕ → Option (Ends × Ends)
mixed n r e i = let x = box_of_region n r in x_log_x_ends (slice_index x.lo i) (slice_index x.hi i) (centre n r i) e

value_of : Option (Ends × Ends) → Option Ends
value_of q = option_map (λ (m : Ends × Ends). m.0) q

slope_in : Option (Ends × Ends) → Option Ends
slope_in q = option_map (λ (m : Ends × Ends). m.1) q

both_there : (q : Option (Ends × Ends)) (w : Ends) → value_of q ≡ Some w → (m : Ends × Ends) × (q ≡ Some m) × (m.0 ≡ w) × (slope_in q ≡ Some m.1)
unfolding value_of slope_in
both_there None w h = absurd (cc)
both_there (Some m) w h = (m, refl, cc, refl)

mixing_is : (p m : ℕ) → x_log_x p m ≡ mixing_of p m
mixing_is zero m = refl
mixing_is (suc p) m = refl

pub mixed_form : ℕ → Region → Ends → Option Form
mixed_form n r e = mix_form n (sum_of_all n (λ i. value_of (mixed n r e i))) (Some no_ends) (λ i. slope_in (mixed n r e i))

-- what the numbers of a component keep
kept : (n : ℕ) (r : Region) (e : Ends) (i : ℕ) (m : Ends × Ends) → HoldsLogE e → e.lo ≤ℤ e.hi → moles n (middle_state n r) ≡ 2 ^ 40 → IsInBox n (box_of_region n r) (middle_state n r) →
    ((i : ℕ) → i < n → slice_index (box_of_region n r).hi i ≤ 2 ^ 40) → i < n → mixed n r e i ≡ Some m →
    KeepsXLogX (slice_index (box_of_region n r).lo i) (slice_index (box_of_region n r).hi i) (centre n r i) m.0 m.1
kept n r e i m he oe all inside top l h =
    let a = rw all at (inside.above i l) in
    let b = rw all at (inside.below i l) in
    x_log_x_kept (slice_index (box_of_region n r).lo i) (slice_index (box_of_region n r).hi i) (centre n r i) e m.0 m.1
    (le_of_mul-le-mul_right {k = 2 ^ 40} a (lit< tt)) (le_of_mul-le-mul_right {k = 2 ^ 40} b (lit< tt)) (top i l) he oe h

-- ---- all of them
sums_move : (n : ℕ) (c g : State) (d : Steps) (z : ℕ → ℤ) (e : ℕ → Ends) (u v : ℕ → LogSum) → 0 < n → n ≤ 4 → 0 < moles n c → 0 < moles n g → AreSteps n c g d z →
    ((i : ℕ) → i < n → MeanValue (e i) (difference (mole_fraction n g i) (mole_fraction n c i)) (u i) (v i)) → Moves (change (log_sum_below n u) (log_sum_below n v)) (free_ends (n - 1) e) d
sums_move zero c g d z e u v some few pc pg s h = absurd (omega (arith, some))
sums_move (suc m) c g d z e u v some few pc pg s h =
    let q : suc m - 1 ≡ m = omega arith in
    rw q
    (bends_move m e (λ i. difference (mole_fraction (suc m) g i) (mole_fraction (suc m) c i)) z d u v (omega (arith, few)) (λ i l. product_pos (moles (suc m) g) (moles (suc m) c) pg pc) s.same
    (λ j l. s.free j (omega (arith, l, q))) s.none h)

pub mixed_shows : (n : ℕ) (r : Region) (g : State) (d : Steps) (z : ℕ → ℤ) (e : Ends) → 0 < n → n ≤ 4 → moles n (middle_state n r) ≡ 2 ^ 40 → 0 < moles n g → AreSteps n (middle_state n r) g d z →
    HoldsLogE e → e.lo ≤ℤ e.hi → IsInBox n (box_of_region n r) (middle_state n r) → IsInBox n (box_of_region n r) g → ((i : ℕ) → i < n → slice_index (box_of_region n r).hi i ≤ 2 ^ 40) →
    ShowsSlope (mixed_form n r e) d (mixing n (middle_state n r)) (mixing n g)
unfolding mixed_form
mixed_shows n r g d z e some few all pg steps he oe in_c in_g top = record {
  form = λ h q. mix_is_form n at (Some no_ends) v h (mix_some n at (Some no_ends) v h q) (λ e q. sum_fit n values e q) none_fit;
  sloped = λ h q. by_parts h (mix_some n at (Some no_ends) v h q);
}
  where
    values : ℕ → Option Ends
    values i = value_of (mixed n r e i)

    at : Option Ends
    at = sum_of_all n values

    v : ℕ → Option Ends
    v i = slope_in (mixed n r e i)

    w : ℕ → Ends
    w i = chosen (v i) (whole (pos 0))

    u : ℕ → LogSum
    u i = mixing_of (centre n r i) (moles n (middle_state n r))

    s : ℕ → LogSum
    s i = mixing_of (g.parts i) (moles n g)

    px : 0 < moles n (middle_state n r)
    px = rw all (lit< tt)

    value_in : (i : ℕ) (a : Ends) → i < n → values i ≡ Some a → IsIn a (u i)
    value_in i a l q =
        let m = both_there (mixed n r e i) a q in
        let k = kept n r e i m.0 he oe all in_c top l m.1 in
        subst (λ (b : Ends). IsIn b (u i)) m.2
        (subst (λ (t : ℕ). IsIn m.0.0 (mixing_of (centre n r i) t)) (sym all) (subst (IsIn m.0.0) (mixing_is (centre n r i) (2 ^ 40)) k.0))

    mean : (i : ℕ) (a : Ends) → i < n → values i ≡ Some a → MeanValue (w i) (difference (mole_fraction n g i) (mole_fraction n (middle_state n r) i)) (u i) (s i)
    mean i a l q =
        let m = both_there (mixed n r e i) a q in
        let k = kept n r e i m.0 he oe all in_c top l m.1 in
        let value = k.1 (g.parts i) (moles n g) pg (in_g.above i l) (in_g.below i l) in
        let value' = rw (mixing_is (centre n r i) (2 ^ 40), mixing_is (g.parts i) (moles n g)) at value in
        subst (λ (b : Ends). MeanValue b (difference (mole_fraction n g i) (mole_fraction n (middle_state n r) i)) (u i) (s i)) (sym (chosen_is (v i) (whole (pos 0)) m.0.1 m.3))
        (subst (λ (t : ℕ). MeanValue m.0.1 (difference (mole_fraction n g i) (ratio (centre n r i) t)) (mixing_of (centre n r i) t) (s i)) (sym all) value')

    by_parts : (h : Form) → MixParts n at (Some no_ends) v h → IsSloped h d (mixing n (middle_state n r)) (mixing n g)
    by_parts h p =
        mix_sloped n at (Some no_ends) v w (mixing n (middle_state n r)) (mixing n g) d h p (λ i a q. chosen_is (v i) (whole (pos 0)) a q)
        (sum_in n values u h.at p.at value_in)
        (sums_move n (middle_state n r) g d z w u s some few px pg steps (λ i l. let t = sum_there n values h.at p.at i l in mean i t.0 l t.1))

pub mixing_shows : (p : Numbers) (n : ℕ) (r : Region) (g : State) (d : Steps) (z : ℕ → ℤ) → p.count ≡ n → 0 < n → n ≤ 4 → moles n (middle_state n r) ≡ 2 ^ 40 → 0 < moles n g → AreSteps n (middle_state n r) g d z →
    HoldsLogE p.log_e → p.log_e.lo ≤ℤ p.log_e.hi → IsInBox n (box_of_region n r) (middle_state n r) → IsInBox n (box_of_region n r) g →
    ((i : ℕ) → i < n → slice_index (box_of_region n r).hi i ≤ 2 ^ 40) → ShowsSlope (mixing_form p r) d (mixing n (middle_state n r)) (mixing n g)
unfolding mixing_form mixed_form value_of slope_in
mixing_shows p n r g d z count some few all pg steps he oe in_c in_g top =
    subst (λ (m : ℕ). ShowsSlope (mixed_form m r p.log_e) d (mixing n (middle_state n r)) (mixing n g)) (sym count)
    (mixed_shows n r g d z p.log_e some few all pg steps he oe in_c in_g top)
