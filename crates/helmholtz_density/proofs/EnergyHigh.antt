-- The energy of a state of a box and of a packing is at most the upper energy.
use Rattle.std.proofs.Common.{ℕ, ◌+◌, ◌-◌, ◌*◌, ◌^◌, ◌≤◌, ◌<◌, ◌≡◌, None, ap, sym, subst, refl, arith, lit<, ℤ, pos, neg_ℤ, ◌*ℤ◌, ◌≤ℤ◌, unsigned_abs, slice_index}
use Rattle.std.proofs.Math.Nat.{mul-le-mul, mul-le-mul_right, le_of_mul-le-mul_right}
use Rattle.std.proofs.lemmas.Int.{ints}
use Rattle.std.proofs.lemmas.Nat.{pow_pos}
use borrow.Author.Differences.{le_out, lt_out, at_most_in}
use Rattle.log_laws.specs.Between.{Ends, IsBetween}
use Rattle.log_laws.specs.Fraction.{Fraction, IsAtMost, IsSame, whole, difference, product_of, quotient_of}
use Rattle.log_laws.specs.LogSum.{AtLeast, AtMost, ratio, IsPositive, constant}
use Rattle.log_laws.specs.Squaring.{log_up, log_down}
use Rattle.log_laws.specs.Whole.{ceil_div, ceil_quotient}
use Rattle.log_laws.proofs.Exports.{at_most_is_opposite, product_pos, ceil_over-pos, fraction_one, minus_log, by_ratio, order_of_ratios, at_most_adds_at, constant_at_most, at_least_takes_larger, at_most_raises, by_natural}
use Rattle.log_enclose.proofs.Exports.{log_up_at_most, log_down_at_least}
use Rattle.case_types.specs.declared.cases.Case.{Case}
use Rattle.case_types.specs.Arithmetic.Bounds.{Box, mixing_up, covolume_scale, covolume_range, ratio_low, volume_up, attraction_term_low, energy_up}
use Rattle.case_types.specs.Energy.Divisions.{State, IsState, bits, mean_covolume, volume_part, minus_log_of, log_of, energy_of}
use Rattle.case_types.specs.Arithmetic.Faults.{fault_of}
use Rattle.case_types.specs.Arithmetic.Holding.{HoldsParameters, HoldsMeans, IsInBox}
use Rattle.case_types.specs.Energy.Instances.{Instance, IsInstance}
use Rattle.case_types.specs.Arithmetic.Numbers.{Numbers, numbers_of, enclosures_of}
use Rattle.log_laws.specs.Sums.{int_sum_below}
use Rattle.pr_params.specs.Packings.{IsPacking}
use Rattle.log_laws.proofs.Exports.{le-ceiling}
use Rattle.pr_params.proofs.Exports.{positive_between, packing_positive, state_packing, rest_parts, state_attraction_most, energy_by_terms, respelled, holds_means, ratio_low_positive, sized, holds_parameters, e_ends, scale_split, IsSized, ends_ordered, between_apart, covolume_positive}
use Rattle.helmholtz_density.proofs.MixingHigh.{mixing_most}
use Rattle.helmholtz_density.proofs.Terms.{energy_up_is}

-- ---- the volume term
-- log2e B / y for a packing of Y units
share_order : (cn cd ch bn bd h s Y Q : ℕ) → 0 < s → cn * 2 ^ 40 ≤ ch * cd → bn * (2 ^ 40 * s) ≤ h * bd → ch * h ≤ Q * (Y * s) →
    cn * bn * 2 ^ 40 * 2 ^ 40 ≤ Q * (cd * bd * Y)
share_order cn cd ch bn bd h s Y Q some hc hb hq =
    let p : cn * 2 ^ 40 * (bn * (2 ^ 40 * s)) ≤ ch * cd * (h * bd) = mul-le-mul hc hb in
    let q : ch * h * (cd * bd) ≤ Q * (Y * s) * (cd * bd) = mul-le-mul_right (cd * bd) hq in
    let l : (cn * bn * 2 ^ 40 * 2 ^ 40) * s ≤ (Q * (cd * bd * Y)) * s = omega arith in
    le_of_mul-le-mul_right l some

-- and so for the packing yn / yd
share_turned : (cn cd bn bd yn yd Y Q : ℕ) → Y * yd ≤ yn * 2 ^ 40 → cn * bn * 2 ^ 40 * 2 ^ 40 ≤ Q * (cd * bd * Y) → cn * bn * yd * 2 ^ 40 ≤ Q * (cd * bd * yn)
share_turned cn cd bn bd yn yd Y Q from l =
    let p : cn * bn * 2 ^ 40 * 2 ^ 40 * yd ≤ Q * (cd * bd * Y) * yd = mul-le-mul_right yd l in
    let q : Y * yd * (Q * (cd * bd)) ≤ yn * 2 ^ 40 * (Q * (cd * bd)) = mul-le-mul_right (Q * (cd * bd)) from in
    let k : (cn * bn * yd * 2 ^ 40) * 2 ^ 40 ≤ (Q * (cd * bd * yn)) * 2 ^ 40 = omega arith in
    le_of_mul-le-mul_right k (lit< tt)

share_at : (cn cd bn bd yn yd Q : ℕ) → 0 < cd → 0 < bd → 0 < yn → cn * bn * yd * 2 ^ 40 ≤ Q * (cd * bd * yn) →
    AtMost (constant (ratio (cn * bn * yd) (cd * bd * yn))) (bits (pos Q))
share_at cn cd bn bd yn yd Q pcd pbd pyn l =
    at_most_raises (constant share) share (bits (pos Q)) (lit< tt) (at_most_in (pos (cn * bn * yd * 2 ^ 40)) (pos (Q * (cd * bd * yn))) (omega (arith, l)))
    (constant_at_most share (product_pos (cd * bd) yn (product_pos cd bd pcd pbd) pyn))
  where
    share : Fraction
    share = ratio (cn * bn * yd) (cd * bd * yn)

-- the logarithm of a packing of at most Y units
log_most : (y : Fraction) (Y : ℕ) → IsPositive y → 1 ≤ Y → Y < 2 ^ 40 → IsAtMost y (ratio Y (2 ^ 40)) → AtMost (log_of y) (bits (log_up Y 40))
log_most y Y py some within to =
    by_ratio (λ y. IsAtMost y (ratio Y (2 ^ 40)) → AtMost (log_of y) (bits (log_up Y 40))) y py
    (λ yn yd pyn pyd to.
    (at_most_is_opposite (log_of (ratio yn yd)) (bits (log_up Y 40))).1
    (minus_log Y (2 ^ 40) yn yd (bits (log_up Y 40)) pyn pyd (order_of_ratios yn yd Y (2 ^ 40) pyd (lit< tt) to) (log_up_at_most Y 40 some (omega (arith, within))))) to

-- log2e B / y
push_most : (p : Numbers) (c b y : Fraction) (Y h : ℕ) (lo : ℤ) → p.log_e ≡ e_ends → 1 ≤ Y → IsPositive y → IsPositive b → IsAtMost (ratio Y (2 ^ 40)) y →
    IsBetween p.log_e (2 ^ 40) c → IsBetween (record { lo = lo; hi = pos h }) (2 ^ (56 + p.lift)) b →
    AtMost (constant (quotient_of (product_of c b) y)) (bits (ceil_div (pos 1586260020565 *ℤ pos h) (pos Y *ℤ pos (covolume_scale p))))
push_most p c b y Y h lo e some py pb from hold_c hold_b =
    by_ratio (λ c. IsBetween e_ends (2 ^ 40) c → AtMost (constant (quotient_of (product_of c b) y)) bound) c
    (positive_between 1586259924992 (2 ^ 40) (pos 1586260020565) c (lit< tt) (rw e at hold_c))
    (λ cn cd pcn pcd hold_c.
    by_ratio (λ b. IsBetween (record { lo = lo; hi = pos h }) (2 ^ (56 + p.lift)) b → AtMost (constant (quotient_of (product_of (ratio cn cd) b) y)) bound) b pb
    (λ bn bd pbn pbd hold_b.
    by_ratio (λ y. IsAtMost (ratio Y (2 ^ 40)) y → AtMost (constant (quotient_of (product_of (ratio cn cd) (ratio bn bd)) y)) bound) y py
    (λ yn yd pyn pyd from.
    let ps : 0 < s = pow_pos (16 + p.lift) in
    let split = scale_split p.lift in
    let oc = order_of_ratios cn cd 1586260020565 (2 ^ 40) pcd (lit< tt) hold_c.below in
    let ob = order_of_ratios bn bd h (2 ^ (56 + p.lift)) pbd (pow_pos (56 + p.lift)) hold_b.below in
    let oy = order_of_ratios Y (2 ^ 40) yn yd (lit< tt) pyd from in
    let some' = product_pos Y s some ps in
    let Q = ceil_quotient (1586260020565 * h) (Y * s) in
    rw (ceil_over-pos (1586260020565 * h) (Y * s) some')
    (share_at cn cd bn bd yn yd Q pcd pbd pyn
    (share_turned cn cd bn bd yn yd Y Q oy (share_order cn cd 1586260020565 bn bd h s Y Q ps oc (rw split at ob) (le-ceiling (1586260020565 * h) (Y * s) some'))))) from) hold_b)
    (rw e at hold_c)
  where
    s : ℕ
    s = covolume_scale p

    bound : Fraction
    bound = bits (ceil_div (pos 1586260020565 *ℤ pos h) (pos Y *ℤ pos s))

volume_most : (p : Numbers) (c b y : Fraction) (Y : ℕ) (v : Ends) → p.log_e ≡ e_ends → 1 ≤ Y → Y < 2 ^ 40 → pos 0 ≤ℤ v.hi → IsPositive b → IsPositive y →
    IsAtMost y (ratio Y (2 ^ 40)) → IsAtMost (ratio Y (2 ^ 40)) y → IsBetween p.log_e (2 ^ 40) c → IsBetween v (2 ^ (56 + p.lift)) b →
    AtMost (volume_part c b y) (bits (volume_up p v.hi Y))
unfolding volume_up
volume_most p c b y Y v e some within high pb py to from hold_c hold_b =
    at_most_adds_at (log_of y) (constant (quotient_of (product_of c b) y)) (log_up Y 40) (ceil_div (p.log_e.hi *ℤ v.hi) (pos Y *ℤ pos (covolume_scale p))) (2 ^ 40) (lit< tt)
    (log_most y Y py some within to)
    (subst (λ (z : ℤ). AtMost (constant (quotient_of (product_of c b) y)) (bits (ceil_div (z *ℤ v.hi) (pos Y *ℤ pos (covolume_scale p))))) (ap (λ (w : Ends). w.hi) (sym e))
    (by_natural (λ z. IsBetween (record { lo = v.lo; hi = z }) (2 ^ (56 + p.lift)) b → AtMost (constant (quotient_of (product_of c b) y)) (bits (ceil_div (pos 1586260020565 *ℤ z) (pos Y *ℤ pos (covolume_scale p)))))
    v.hi high (λ h hold_b. push_most p c b y Y h v.lo e some py pb from hold_c hold_b) (between_apart v (2 ^ (56 + p.lift)) b hold_b)))

-- ---- minus a logarithm
-- minus a logarithm is at most minus its lower end
minus_most : (a : Fraction) (l : ℤ) → AtLeast (log_of a) (bits l) → AtMost (minus_log_of a) (bits (neg_ℤ l))
minus_most a l x = (at_most_is_opposite (minus_log_of a) (bits (neg_ℤ l))).1 (subst (λ (z : ℤ). AtLeast (log_of a) (bits z)) (twice l) x)
  where
    twice : (z : ℤ) → z ≡ neg_ℤ (neg_ℤ z)
    twice z = omega (arith, ints)

covolume_most : (b : Fraction) (s : ℕ) (v : Ends) → IsPositive b → pos (2 ^ 49) ≤ℤ v.lo → v.lo ≤ℤ pos (2 ^ 61) → IsBetween v (2 ^ s) b →
    AtMost (minus_log_of b) (bits (neg_ℤ (log_down (unsigned_abs v.lo) s)))
covolume_most b s v pb low high hold =
    by_natural (λ z. pos (2 ^ 49) ≤ℤ z → z ≤ℤ pos (2 ^ 61) → IsBetween (record { lo = z; hi = v.hi }) (2 ^ s) b → AtMost (minus_log_of b) (bits (neg_ℤ (log_down (unsigned_abs z) s))))
    v.lo (omega (arith, ints, low))
    (λ l low high hold.
    let ql = le_out (pos (2 ^ 49)) (pos l) low in
    let qh = le_out (pos l) (pos (2 ^ 61)) high in
    minus_most b (log_down l s)
    (at_least_takes_larger fraction_one (ratio l (2 ^ s)) b (constant (whole (pos 0))) (bits (log_down l s)) (at_most_in (pos 0) (pos 1) (omega arith)) pb hold.above
    (log_down_at_least l s (omega (arith, ql)) (omega (arith, qh)))))
    low high (between_apart v (2 ^ s) b hold)

-- what the packing un less of yd leaves of 1, from a packing of at most Y units
rest_order : (un yn yd Y : ℕ) → un + yn ≡ yd → yn * 2 ^ 40 ≤ Y * yd → Y < 2 ^ 40 → (2 ^ 40 - Y) * yd ≤ un * 2 ^ 40
rest_order un yn yd Y e l within = ordered (2 ^ 40 - Y) (omega (arith, within))
  where
    ordered : (n : ℕ) → n + Y ≡ 2 ^ 40 → n * yd ≤ un * 2 ^ 40
    ordered n en = let h : (n + Y) * yd ≡ 2 ^ 40 * yd = ap (λ (x : ℕ). x * yd) en in omega arith

rest_most : (y : Fraction) (Y : ℕ) → IsPacking y → IsAtMost y (ratio Y (2 ^ 40)) → Y < 2 ^ 40 → AtMost (minus_log_of (difference (whole (pos 1)) y)) (bits (neg_ℤ (log_down (2 ^ 40 - Y) 40)))
rest_most y Y packing to within =
    by_ratio (λ y. IsPacking y → IsAtMost y (ratio Y (2 ^ 40)) → AtMost (minus_log_of (difference (whole (pos 1)) y)) (bits (neg_ℤ (log_down (2 ^ 40 - Y) 40)))) y (packing_positive y packing)
    (λ yn yd pyn pyd packing to.
    let below : yn < yd = (let l = lt_out (pos yn) (pos yd) packing.not_full in omega (arith, l)) in
    at_rest (yd - yn) yn yd pyd (omega arith) (omega arith) (order_of_ratios yn yd Y (2 ^ 40) pyd (lit< tt) to)) packing to
  where
    at_rest : (un yn yd : ℕ) → 0 < yd → 0 < un → un + yn ≡ yd → yn * 2 ^ 40 ≤ Y * yd →
        AtMost (minus_log_of (difference (whole (pos 1)) (ratio yn yd))) (bits (neg_ℤ (log_down (2 ^ 40 - Y) 40)))
    at_rest un yn yd pyd pun is l =
        minus_most (difference fraction_one (ratio yn yd)) (log_down (2 ^ 40 - Y) 40)
        (respelled fraction_one (difference fraction_one (ratio yn yd)) un yd (bits (log_down (2 ^ 40 - Y) 40)) (lit< tt) (rest_parts un yn yd pyd is) pun
        (at_least_takes_larger fraction_one (ratio (2 ^ 40 - Y) (2 ^ 40)) (ratio un yd) (constant (whole (pos 0))) (bits (log_down (2 ^ 40 - Y) 40)) (at_most_in (pos 0) (pos 1) (omega arith)) (pyd, pun)
        (at_most_in (pos ((2 ^ 40 - Y) * yd)) (pos (un * 2 ^ 40)) (let o = rest_order un yn yd Y is l within in omega (arith, o)))
        (log_down_at_least (2 ^ 40 - Y) 40 (omega (arith, within)) (omega (arith, within)))))

-- ---- the sum
-- a packing of Y units by value, either way round
by_value : (y : Fraction) (Y : ℕ) → IsSame y (ratio Y (2 ^ 40)) → IsAtMost y (ratio Y (2 ^ 40)) × IsAtMost (ratio Y (2 ^ 40)) y
by_value y Y e = (subst (λ (z : ℤ). (y.num *ℤ pos (2 ^ 40)) ≤ℤ z) e (no_more (y.num *ℤ pos (2 ^ 40))), subst (λ (z : ℤ). z ≤ℤ (y.num *ℤ pos (2 ^ 40))) e (no_more (y.num *ℤ pos (2 ^ 40))))
  where
    no_more : (z : ℤ) → z ≤ℤ z
    no_more z = omega (arith, ints)

pub energy_at_most : (c : Case) (p : Numbers) (x : Instance) (box : Box) (f : State) (Y : ℕ) → IsSized c.n p box → pos 0 ≤ℤ ratio_low p box → 1 ≤ Y → Y < 2 ^ 40 →
    HoldsParameters c p x → HoldsMeans c p x box f → IsInBox c.n box f → IsState c.n f → IsSame f.packing (ratio Y (2 ^ 40)) →
    AtMost (energy_of c x f) (bits (energy_up p box Y))
energy_at_most c p x box f Y sized ratio_low_positive some within holds means inside state same =
    let b = mean_covolume c f in
    let v = covolume_range p box in
    let packing = state_packing c.n f state in
    let py = packing_positive f.packing packing in
    let order = by_value f.packing Y same in
    let pb = covolume_positive v (2 ^ (56 + p.lift)) b sized.covolume_low means.covolume in
    let ordered = ends_ordered v (2 ^ (56 + p.lift)) b means.covolume in
    let low : pos (2 ^ 49) ≤ℤ v.lo = omega (arith, ints, sized.covolume_low) in
    let hi : pos 0 ≤ℤ v.hi = omega (arith, ints, low, ordered) in
    let lo : v.lo ≤ℤ pos (2 ^ 61) = omega (arith, ints, sized.covolume_high, ordered) in
    let terms = energy_by_terms AtMost (λ s t q r. at_most_adds_at s t q r (2 ^ 40) (lit< tt)) c x f
    (int_sum_below c.n (λ i. mixing_up (slice_index box.lo i) (slice_index box.hi i))) (volume_up p v.hi Y) (log_down (unsigned_abs v.lo) (56 + p.lift)) (log_down (2 ^ 40 - Y) 40)
    (attraction_term_low p (ratio_low p box) Y)
    (mixing_most c.n box f state.some inside sized.fractions)
    (volume_most p x.log_e b f.packing Y v sized.log_e some within hi pb py order.0 order.1 holds.log_e means.covolume)
    (covolume_most b (56 + p.lift) v pb low lo means.covolume)
    (rest_most f.packing Y packing order.0 within)
    (state_attraction_most c p x box f Y sized holds means state ratio_low_positive order.1 (omega (arith, within))) in
    subst (λ (z : ℤ). AtMost (energy_of c x f) (bits z))
    (energy_up_is p box Y _ _ _ _ _ (ap (λ (n : ℕ). int_sum_below n (λ i. mixing_up (slice_index box.lo i) (slice_index box.hi i))) (sym sized.count)) refl refl refl refl) terms

-- for the numbers of an accepted case
pub energy_up_holds : (c : Case) (x : Instance) (box : Box) (f : State) (Y : ℕ) → fault_of c ≡ None → IsInstance c (enclosures_of c) x →
    ((i : ℕ) → i < c.n → slice_index box.hi i ≤ 2 ^ 40) → 1 ≤ Y → Y < 2 ^ 40 → IsInBox c.n box f → IsState c.n f → IsSame f.packing (ratio Y (2 ^ 40)) →
    AtMost (energy_of c x f) (bits (energy_up (numbers_of c) box Y))
energy_up_holds c x box f Y accepted inst fractions some within inside state same =
    let holds = holds_parameters c x accepted inst in
    energy_at_most c (numbers_of c) x box f Y (sized c box accepted fractions) (ratio_low_positive c x box f accepted holds inside state.some) some within
    holds (holds_means c x box f accepted holds inside state.some) inside state same
