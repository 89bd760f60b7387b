-- How large the numbers of an accepted case are, for any number of components.
use Rattle.std.proofs.Common.{◌≡◌, ℕ, zero, suc, ◌+◌, ◌*◌, ◌/◌, ◌^◌, ◌<◌, ◌≤◌, Bool, true, false, ◌&&◌, not, nat_le, nat_lt, IsTrue, IsFalse, inl, inr, refl, ap, arith, lit<, ℤ, pos, ◌≤ℤ◌, None}
use Rattle.std.proofs.lemmas.Bool.{cases_lt}
use Rattle.std.specs.Int.{int_min, int_max}
use Rattle.std.proofs.lemmas.Int.{ints, clamps}
use Rattle.std.proofs.lemmas.Nat.{pow-add, le-div}
use Rattle.std.proofs.Math.Nat.{mul-le-mul_left, mul-le-mul_right, le_of_mul-le-mul_right}
use Rattle.log_laws.specs.Between.{Ends}
use Rattle.log_laws.specs.Sums.{all_below}
use Rattle.log_laws.specs.Whole.{floor_over, ceil_over}
use Rattle.log_laws.proofs.Exports.{le_of_mul-le_ℤ, ceil_over-pos, floor_over-le, le-ceil_over, all_below-at, and_true, product_pos}
use Rattle.case_types.specs.declared.cases.Case.{Case}
use Rattle.case_types.specs.Energy.Components.{critical_temperature, critical_pressure}
use Rattle.case_types.specs.Arithmetic.Faults.{fault_of, covolumes_in_range, covolumes_are_near, is_tiny, is_near}
use Rattle.case_types.specs.Arithmetic.Numbers.{numbers_of, lift_of, fits_lifted, greatest_ratio, pressure_root_of, enclosures_of, alpha_root_ends, alpha_slope}
use Rattle.case_types.specs.Energy.Parameters.{kappa_scale, covolume_num, covolume_den}
use Rattle.case_types.specs.Arithmetic.Tables.{ends_at, ends_of_pair}
use Rattle.pr_params.proofs.Accepted.{floor_positive, ceiling_positive, product_positive, bare_positive, bare_high_positive}
use Rattle.pr_params.proofs.AllMeans.{AreUsable}
use Rattle.pr_params.proofs.AtComponents.{covolume_at, attraction_at, bare_attraction_at, alpha_root_at}
use Rattle.pr_params.proofs.Below.{or_else_none}
use Rattle.pr_params.proofs.Component.{at_most}
use Rattle.pr_params.proofs.Components.{component_at, den_positive_at}
use Rattle.pr_params.proofs.GreatestLift.{lift_greatest, true_of}
use Rattle.pr_params.proofs.ParametersHold.{alpha_large}
use Rattle.pr_params.proofs.Sized.{count_of}
use Rattle.pr_params.proofs.Sizes.{or_where, ceiling_high}

-- ---- a test that doesn't hold of all fails of one
pub record FailsOfOne (n : ℕ) (p : ℕ → Bool) : Type 0 where
  pub at : ℕ
  pub below : at < n
  pub fails : IsFalse (p at)

fails_of_one : (n : ℕ) (p : ℕ → Bool) → IsFalse (all_below n p) → FailsOfOne n p
fails_of_one zero p h = absurd (cc h)
fails_of_one (suc n) p h = either (p n) refl (λ k. fails_of_one n p k)
  where
    before : (b : Bool) → IsFalse (b && true) → IsFalse b
    before true h = absurd (cc h)
    before false h = refl

    either : (b : Bool) → p n ≡ b → (IsFalse (all_below n p) → FailsOfOne n p) → FailsOfOne (suc n) p
    either false e more_of = record { at = n; below = omega arith; fails = e }
    either true e more_of =
        let more = more_of (before (all_below n p) (rw e at h)) in
        record { at = more.at; below = (let l = more.below in omega (arith, l)); fails = more.fails }

above : (x y : ℕ) → IsFalse (nat_le x y) → y < x
above x y h =
    elim (cases_lt y x) [
      | inl less ↦ less
      | inr more ↦ let yes : nat_le x y ≡ true = grind (arith, more) in absurd (cc (rw yes at h))
    ]

not_below : (x y : ℕ) → IsFalse (nat_lt x y) → y ≤ x
not_below x y h =
    elim (cases_lt x y) [
      | inl less ↦ let yes : nat_lt x y ≡ true = grind (arith, less) in absurd (cc (rw yes at h))
      | inr more ↦ more
    ]

-- ---- the co-volumes
-- some co-volume is at least 2^-24
record IsLarge (c : Case) : Type 0 where
  at : ℕ
  below : at < c.n
  large : covolume_den c at ≤ covolume_num c at * 2 ^ 24

one_is_large : (c : Case) → fault_of c ≡ None → IsLarge c
unfolding fault_of
one_is_large c e =
    let range = true_of (covolumes_in_range c) (or_where _ _ _ e).0 in
    let none = (and_true (all_below c.n (fits_lifted c 0)) (not (all_below c.n (is_tiny c))) range).1 in
    let one = fails_of_one c.n (is_tiny c) (opposite (all_below c.n (is_tiny c)) none) in
    record { at = one.at; below = one.below; large = not_below (covolume_num c one.at * 2 ^ 24) (covolume_den c one.at) one.fails }
  where
    opposite : (b : Bool) → IsTrue (not b) → IsFalse b
    opposite true h = absurd (cc h)
    opposite false h = refl

-- raised, some co-volume is at least 16
record IsRaised (c : Case) : Type 0 where
  at : ℕ
  below : at < c.n
  raised : 16 * covolume_den c at ≤ covolume_num c at * 2 ^ lift_of c

one_is_raised : (c : Case) → fault_of c ≡ None → IsRaised c
one_is_raised c e =
    let g = lift_greatest c e in
    elim (cases_lt (lift_of c) 29) [
      | inl less ↦
          let more = lift_of c + 1 in
          let one = fails_of_one c.n (fits_lifted c more) (g.greatest more (omega arith) (omega (arith, less))) in
          let over = above (covolume_num c one.at * 2 ^ more) (32 * covolume_den c one.at) one.fails in
          let twice = ap (λ (x : ℕ). covolume_num c one.at * x) (pow-add 2 (lift_of c) 1) in
          record { at = one.at; below = one.below; raised = omega (arith, over, twice) }
      | inr more ↦
          let large = one_is_large c e in
          let within = g.within in
          let same : lift_of c ≡ 29 = omega (arith, more, within) in
          let l = large.large in
          record { at = large.at; below = large.below; raised = rw same (omega (arith, l)) }
    ]

-- no co-volume is above 1024 times another
near_at : (c : Case) (i j : ℕ) → fault_of c ≡ None → i < c.n → j < c.n
    → critical_temperature c j * critical_pressure c i ≤ critical_temperature c i * critical_pressure c j * 1024
unfolding fault_of
near_at c i j e h k =
    let near = true_of (covolumes_are_near c) (or_where _ _ _ (or_else_none _ _ e).1).0 in
    let row = all_below-at c.n (λ i. all_below c.n (is_near c i)) i h near in
    at_most (critical_temperature c j * critical_pressure c i) (critical_temperature c i * critical_pressure c j * 1024)
    (all_below-at c.n (is_near c i) j k row)

raised_order : (n d m e ti pi tj pj l : ℕ) → 0 < ti → 0 < pj → m * ti ≡ n * tj → d * pj ≡ e * pi → 16 * e ≤ m * l → tj * pi ≤ ti * pj * 1024 → d ≤ n * l * 64
raised_order n d m e ti pi tj pj l some some_pressure nums dens h k =
    let a = mul-le-mul_right (pi * ti) h in
    let b = mul-le-mul_left (n * l) k in
    let num = ap (λ x. x * (l * pi)) nums in
    let den = ap (λ x. x * ti) dens in
    let all : d * (16 * (pj * ti)) ≤ n * l * 64 * (16 * (pj * ti)) = omega (arith, a, b, num, den) in
    le_of_mul-le-mul_right all (let positive = product_pos pj ti some_pressure some in omega (arith, positive))

-- raised, each co-volume is at least 1/64
raised_at : (c : Case) (i : ℕ) → fault_of c ≡ None → i < c.n → covolume_den c i ≤ covolume_num c i * 2 ^ lift_of c * 64
raised_at c i e h =
    let one = one_is_raised c e in
    let own = component_at c i h in
    let other = component_at c one.at one.below in
    raised_order (covolume_num c i) (covolume_den c i) (covolume_num c one.at) (covolume_den c one.at)
    (critical_temperature c i) (critical_pressure c i) (critical_temperature c one.at) (critical_pressure c one.at) (2 ^ lift_of c)
    (omega (arith, own.tc_low)) (omega (arith, other.pc_low)) (omega arith) (omega arith) one.raised (near_at c i one.at e h one.below)

-- the lower end of a co-volume is at least 2^50, the upper at most 2^61
raised_floor : (num den lift : ℕ) → 0 < den → den ≤ num * 2 ^ lift * 64 → 2 ^ 50 ≤ num * 2 ^ (56 + lift) / den
raised_floor num den lift some h =
    le-div (2 ^ 50) (num * 2 ^ (56 + lift)) den some
    (rw (pow-add 2 56 lift) (let p = mul-le-mul_right (2 ^ 50) h in omega (arith, p)))

pub covolume_least : (c : Case) (i : ℕ) → fault_of c ≡ None → i < c.n → pos (2 ^ 50) ≤ℤ (ends_at (numbers_of c).covolumes i).lo
covolume_least c i e h =
    let low = raised_floor (covolume_num c i) (covolume_den c i) (lift_of c) (den_positive_at c i h) (raised_at c i e h) in
    rw (covolume_at c i h) (omega (arith, ints, low))

pub covolume_most : (c : Case) (i : ℕ) → fault_of c ≡ None → i < c.n → (ends_at (numbers_of c).covolumes i).hi ≤ℤ pos (2 ^ 61)
covolume_most c i e h =
    let g = lift_greatest c e in
    let fits = at_most (covolume_num c i * 2 ^ lift_of c) (32 * covolume_den c i) (all_below-at c.n (λ i. fits_lifted c (lift_of c) i) i h g.fits) in
    let high = ceiling_high (covolume_num c i) (covolume_den c i) (lift_of c) (den_positive_at c i h) fits in
    rw (covolume_at c i h, ceil_over-pos (covolume_num c i * 2 ^ (56 + lift_of c)) (covolume_den c i) (den_positive_at c i h)) (omega (arith, ints, high))

-- ---- the attractions
-- no attraction is negative
pub attraction_least : (c : Case) (i j : ℕ) → fault_of c ≡ None → i < c.n → j < c.n → pos 0 ≤ℤ (ends_of_pair (numbers_of c).attractions i j).lo
attraction_least c i j e h k =
    let bare : pos 0 ≤ℤ (ends_of_pair (numbers_of c).bare_attractions i j).lo =
    rw (bare_attraction_at c i j h k) (bare_positive c (lift_of c) (pressure_root_of c (enclosures_of c).pressure_roots i j) i j h k) in
    let first = alpha_large c i h e in
    let second = alpha_large c j k e in
    let root : (v : ℤ) → pos (2 ^ 38) ≤ℤ v → pos 0 ≤ℤ v = λ v l. omega (arith, ints, l) in
    rw (attraction_at c i j h k)
    (floor_positive _ _ (product_positive _ _ bare (floor_positive _ _ (product_positive _ _ (root _ first) (root _ second)))))

-- the ends of a root of alpha are in order
pub alpha_ordered : (c : Case) (t : Ends) (i : ℕ) → (alpha_root_ends c t i).lo ≤ℤ (alpha_root_ends c t i).hi
alpha_ordered c t i =
    let a = alpha_slope c i t.lo in
    let b = alpha_slope c i t.hi in
    let low = floor_over-le (int_min a b) kappa_scale (lit< tt) in
    let high = le-ceil_over (int_max a b) kappa_scale (lit< tt) in
    let order = le_of_mul-le_ℤ (floor_over (int_min a b) kappa_scale) (ceil_over (int_max a b) kappa_scale) kappa_scale (lit< tt) (joined a b _ _ low high) in
    omega (arith, ints, order)
  where
    joined : (a b x y : ℤ) → x ≤ℤ int_min a b → int_max a b ≤ℤ y → x ≤ℤ y
    joined a b x y h k = omega (arith, ints, clamps, h, k)

pub attraction_high_least : (c : Case) (i j : ℕ) → fault_of c ≡ None → i < c.n → j < c.n → pos 0 ≤ℤ (ends_of_pair (numbers_of c).attractions i j).hi
attraction_high_least c i j e h k =
    let bare : pos 0 ≤ℤ (ends_of_pair (numbers_of c).bare_attractions i j).hi =
    rw (bare_attraction_at c i j h k) (bare_high_positive c (lift_of c) (pressure_root_of c (enclosures_of c).pressure_roots i j) i j h k) in
    let root : (i : ℕ) → i < c.n → pos 0 ≤ℤ (ends_at (numbers_of c).alpha_roots i).hi =
    λ i h.
    (let low = rw (alpha_root_at c i h) at (alpha_large c i h e) in
    let order = alpha_ordered c (ends_at (enclosures_of c).temperature_roots i) i in
    rw (alpha_root_at c i h) (omega (arith, ints, low, order))) in
    rw (attraction_at c i j h k)
    (ceiling_positive _ _ (product_positive _ _ bare (ceiling_positive _ _ (product_positive _ _ (root i h) (root j k)))))

-- ---- the numbers can be used for means
rho_is_greatest : (c : Case) → (numbers_of c).rho ≡ greatest_ratio c.n (numbers_of c).attractions (numbers_of c).covolumes
unfolding numbers_of
rho_is_greatest c = refl

pub usable : (c : Case) → fault_of c ≡ None → AreUsable c.n (numbers_of c)
usable c e = record {
  count = count_of c;
  some = c.some;
  covolumes = λ i h. (let l = covolume_least c i e h in omega (arith, ints, l));
  attractions = λ i j h k. attraction_least c i j e h k;
  rho = rho_is_greatest c;
}
