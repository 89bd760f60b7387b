-- The form of the plane means the plane.
use Rattle.std.proofs.Common.{ℕ, ◌+◌, ◌-◌, ◌*◌, ◌^◌, ◌≤◌, ◌<◌, ◌≡◌, Bool, true, false, zero, suc, refl, sym, ap, subst, arith, lit<, ℤ, pos, ◌+ℤ◌, ◌*ℤ◌, List, Option, Some, None, nat_lt, if◌then◌else◌, unsigned_abs}
use Rattle.std.proofs.lemmas.Int.{ints}
use borrow.Author.Differences.{up, down, product_is, sum_is_lem}
use Rattle.log_laws.specs.Between.{Ends, IsBetween}
use Rattle.log_laws.specs.Fraction.{Fraction, IsFraction, IsSame, difference, product_of}
use Rattle.log_laws.specs.Interval.{ends}
use Rattle.log_laws.specs.LogSum.{LogSum, constant}
use Rattle.log_laws.specs.Sums.{all_below, int_sum_below, sum_below}
use Rattle.log_laws.specs.Whole.{floor_over, ceil_over}
use Rattle.log_laws.proofs.Exports.{floor_over-le, le-ceil_over, mean, mean_fraction, mul-le_ℤ, parts_negated, parts_of_same, parts_product, parts_ratio, parts_respelled, parts_self, parts_sum, parts_sum_below, product_pos, same_of_parts, scale_scale}
use Rattle.case_types.specs.Arithmetic.Bounds.{one, plane_sum, potential}
use Rattle.case_types.specs.Arithmetic.Numbers.{Numbers}
use Rattle.case_types.specs.Arithmetic.Tables.{no_ends}
use Rattle.case_types.specs.Energy.Divisions.{State, moles, mole_fraction}
use Rattle.case_types.specs.Grid.Cells.{Region}
use Rattle.slope_form.specs.Arithmetic.{capped}
use Rattle.slope_form.specs.Forms.{Form}
use Rattle.slope_form.specs.Meaning.{Steps, bits_of}
use Rattle.slope_form.proofs.Exports.{Moves, between_bits, capped_some, free_ends, in_fraction, moves_same}
use Rattle.tangent_bound.specs.SlopeLows.{centre, mix_form, plane_form}
use Rattle.tangent_bound.proofs.SlopeMeans.{number_moves}
use Rattle.tangent_bound.proofs.SlopeParts.{ShowsSlope, middle_state}
use Rattle.tangent_bound.proofs.SlopeSteps.{AreSteps}
use Rattle.tangent_bound.proofs.SlopeSums.{between_capped, capped_fit, mix_is_form, mix_sloped, mix_some, none_fit}

-- ---- the plane at a state, which is a mean of the potentials
abbrev pub plane_at_state : ℕ → (ℕ → ℤ) → State → Fraction
plane_at_state n lam f = record { num = plane_sum n lam f.parts; den = moles n f * one }

sum_parts : (n : ℕ) (lam : ℕ → ℤ) (p : ℕ → ℕ) → up (plane_sum n lam p) + sum_below n (λ i. p i * down (lam i)) ≡ down (plane_sum n lam p) + sum_below n (λ i. p i * up (lam i))
unfolding int_sum_below
sum_parts zero lam p = refl
sum_parts (suc n) lam p =
    numbers (up (plane_sum n lam p)) (down (plane_sum n lam p)) (up (lam n)) (down (lam n)) (p n) (sum_below n (λ i. p i * down (lam i))) (sum_below n (λ i. p i * up (lam i)))
    (up (lam n *ℤ pos (p n))) (down (lam n *ℤ pos (p n))) (up (plane_sum n lam p +ℤ lam n *ℤ pos (p n))) (down (plane_sum n lam p +ℤ lam n *ℤ pos (p n)))
    (sum_parts n lam p) (omega (arith, product_is (lam n) (pos (p n)))) (omega (arith, sum_is_lem (plane_sum n lam p) (lam n *ℤ pos (p n))))
  where
    numbers : (us ds ul dl q sd su ut dt ux dx : ℕ) → us + sd ≡ ds + su → ut + q * dl ≡ dt + q * ul → ux + (ds + dt) ≡ dx + (us + ut) → ux + (sd + q * dl) ≡ dx + (su + q * ul)
    numbers us ds ul dl q sd su ut dt ux dx a b c = omega (arith, a, b, c)

mean_is_plane : (n : ℕ) (lam : ℕ → ℤ) (f : State) → 0 < moles n f → IsSame (mean n (mole_fraction n f) (λ i. bits_of (lam i))) (plane_at_state n lam f)
mean_is_plane n lam f pf =
    let pd = product_pos (moles n f) (2 ^ 40) pf (lit< tt) in
    let all = parts_sum_below n (λ i. product_of (mole_fraction n f i) (bits_of (lam i))) (λ i. f.parts i * up (lam i)) (λ i. f.parts i * down (lam i)) (moles n f * 2 ^ 40) pd
    (λ i l. parts_respelled (parts_product (parts_ratio (f.parts i) (moles n f) pf) (parts_self (lam i) (2 ^ 40) (lit< tt))) pd (omega arith)) in
    let e = sum_parts n lam f.parts in
    same_of_parts all (parts_self (plane_sum n lam f.parts) (moles n f * 2 ^ 40) pd)
    (numbers (sum_below n (λ i. f.parts i * up (lam i))) (sum_below n (λ i. f.parts i * down (lam i))) (up (plane_sum n lam f.parts)) (down (plane_sum n lam f.parts)) (moles n f * 2 ^ 40) e)
  where
    numbers : (su sd u d m : ℕ) → u + sd ≡ d + su → su * m + d * m ≡ u * m + sd * m
    numbers su sd u d m e = let k : (u + sd) * m ≡ (d + su) * m = ap (λ (x : ℕ). x * m) e in omega (arith, k)

-- differences of the same numbers
same_difference : (a b c d : Fraction) → IsFraction a → IsFraction b → IsFraction c → IsFraction d → IsSame a c → IsSame b d → IsSame (difference a b) (difference c d)
same_difference a b c d pa pb pc pd p q =
    let xa = parts_self a.num a.den pa in
    let xb = parts_self b.num b.den pb in
    same_of_parts (parts_sum xa (parts_negated xb)) (parts_sum (parts_of_same {f = a} {g = c} pc p xa) (parts_negated (parts_of_same {f = b} {g = d} pd q xb))) refl

-- ---- its form
plane_between : (s : ℤ) (e : Ends) → capped (floor_over s one) (ceil_over s one) ≡ Some e → IsBetween e (2 ^ 40) (let f : Fraction = record { num = s; den = 2 ^ 40 * one } in f)
plane_between s e h =
    between_capped (floor_over s one) (ceil_over s one) e (record { num = s; den = 2 ^ 40 * one }) (capped_some (floor_over s one) (ceil_over s one) e h)
    (record {
      is_fraction = lit< tt;
      above = rw (← scale_scale (floor_over s one) (2 ^ 40) one) (mul-le_ℤ (floor_over s one *ℤ pos (2 ^ 40)) s one (floor_over-le s one (lit< tt)));
      below = rw (← scale_scale (ceil_over s one) (2 ^ 40) one) (mul-le_ℤ s (ceil_over s one *ℤ pos (2 ^ 40)) one (le-ceil_over s one (lit< tt)));
    })

abbrev linear_form : ℕ → Region → (ℕ → ℤ) → Option Form
linear_form n r lam =
    mix_form n (capped (floor_over (plane_sum n lam (centre n r)) one) (ceil_over (plane_sum n lam (centre n r)) one)) (Some no_ends) (λ i. Some (ends (lam i) (lam i)))

linear_shows : (n : ℕ) (r : Region) (g : State) (d : Steps) (z : ℕ → ℤ) (lam : ℕ → ℤ) → 0 < n → n ≤ 4 → moles n (middle_state n r) ≡ 2 ^ 40 → 0 < moles n g → AreSteps n (middle_state n r) g d z →
    ShowsSlope (linear_form n r lam) d (constant (plane_at_state n lam (middle_state n r))) (constant (plane_at_state n lam g))
linear_shows n r g d z lam some few all pg steps = record {
  form = λ h e. mix_is_form n at (Some no_ends) v h (mix_some n at (Some no_ends) v h e) (λ e q. capped_fit (floor_over s one) (ceil_over s one) e q) none_fit;
  sloped = λ h e.
      let p = mix_some n at (Some no_ends) v h e in
      mix_sloped n at (Some no_ends) v w (constant (plane_at_state n lam (middle_state n r))) (constant (plane_at_state n lam g)) d h p (λ i e q. by_some (w i) e q)
      (in_fraction h.at (plane_at_state n lam (middle_state n r))
      (subst (λ (m : ℕ). IsBetween h.at (2 ^ 40) (let f : Fraction = record { num = s; den = m * one } in f)) (sym all) (plane_between s h.at p.at))) moved;
}
  where
    s : ℤ
    s = plane_sum n lam (centre n r)

    at : Option Ends
    at = capped (floor_over s one) (ceil_over s one)

    w : ℕ → Ends
    w i = ends (lam i) (lam i)

    v : ℕ → Option Ends
    v i = Some (w i)

    by_some : (u e : Ends) → Some u ≡ Some e → u ≡ e
    by_some u e q = cc

    px : 0 < moles n (middle_state n r)
    px = rw all (lit< tt)

    b : ℕ → Fraction
    b i = bits_of (lam i)

    moved : Moves (constant (difference (plane_at_state n lam g) (plane_at_state n lam (middle_state n r)))) (free_ends (n - 1) w) d
    moved =
        let my = mean n (mole_fraction n g) b in
        let mx = mean n (mole_fraction n (middle_state n r)) b in
        let vy = plane_at_state n lam g in
        let vx = plane_at_state n lam (middle_state n r) in
        let py = mean_fraction n (mole_fraction n g) b (λ i l. pg) (λ i l. lit< tt) in
        let pm = mean_fraction n (mole_fraction n (middle_state n r)) b (λ i l. px) (λ i l. lit< tt) in
        let qy = product_pos (moles n g) one pg (lit< tt) in
        let qx = product_pos (moles n (middle_state n r)) one px (lit< tt) in
        moves_same (difference my mx) (difference vy vx) (product_pos my.den mx.den py pm) (product_pos vy.den vx.den qy qx)
        (same_difference my mx vy vx py pm qy qx (mean_is_plane n lam g pg) (mean_is_plane n lam (middle_state n r) px))
        (number_moves n (middle_state n r) g d z b w some few px pg steps (λ i l. between_bits (w i) (lam i) (omega (arith, ints)) (omega (arith, ints))))

pub plane_shows : (p : Numbers) (n : ℕ) (lam : List ℤ) (r : Region) (g : State) (d : Steps) (z : ℕ → ℤ) → p.count ≡ n → 0 < n → n ≤ 4 → moles n (middle_state n r) ≡ 2 ^ 40 → 0 < moles n g →
    AreSteps n (middle_state n r) g d z → ShowsSlope (plane_form p lam r) d (constant (plane_at_state n (potential lam) (middle_state n r))) (constant (plane_at_state n (potential lam) g))
unfolding plane_form
plane_shows p n lam r g d z count some few all pg steps =
    subst (λ (m : ℕ). ShowsSlope (if all_below m (λ i. nat_lt (unsigned_abs (potential lam i)) (2 ^ 60)) then linear_form m r (potential lam) else None) d u v) (sym count)
    (by_test (all_below n (λ i. nat_lt (unsigned_abs (potential lam i)) (2 ^ 60))))
  where
    u : LogSum
    u = constant (plane_at_state n (potential lam) (middle_state n r))

    v : LogSum
    v = constant (plane_at_state n (potential lam) g)

    by_test : (b : Bool) → ShowsSlope (if b then linear_form n r (potential lam) else None) d u v
    by_test true = linear_shows n r g d z (potential lam) some few all pg steps
    by_test false = record { form = λ h e. absurd (cc); sloped = λ h e. absurd (cc) }
