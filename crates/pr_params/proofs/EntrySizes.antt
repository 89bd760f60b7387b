-- How large the roots of alpha and the attractions of pairs are.
use Rattle.std.proofs.Common.{◌≡◌, ℕ, ◌+◌, ◌*◌, ◌/◌, ◌^◌, ◌<◌, ◌≤◌, IsTrue, arith, ℤ, pos, negsuc, ◌+ℤ◌, ◌-ℤ◌, ◌*ℤ◌, ◌≤ℤ◌, ◌<ℤ◌, unsigned_abs, lit<}
use Rattle.std.specs.Int.{int_max}
use Rattle.std.proofs.Math.Nat.{mul-le-mul, div-lt_iff_lt-mul, pow-le-pow_right}
use Rattle.std.proofs.lemmas.Int.{ints, clamps}
use Rattle.std.proofs.lemmas.Nat.{le-div}
use Rattle.log_laws.specs.Between.{Ends}
use Rattle.log_laws.specs.Roots.{root_floor}
use Rattle.log_laws.specs.Whole.{ceil_over}
use Rattle.log_laws.proofs.Exports.{ceil_over-pos, product_pos, natural, product_at_most}
use Rattle.root_enclose.proofs.Exports.{floor_root_is, IsFloorRootOver, floor_root_over}
use Rattle.case_types.specs.declared.cases.Case.{Case}
use Rattle.case_types.specs.Energy.Components.{critical_temperature, acentric_factor, interaction}
use Rattle.case_types.specs.Arithmetic.Faults.{covolumes_in_range}
use Rattle.case_types.specs.Arithmetic.Numbers.{lift_of}
use Rattle.case_types.specs.Energy.Parameters.{kappa_of, kappa_scale, covolume_num, covolume_den, cohesion_den}
use Rattle.pr_params.specs.Entries.{temperature_entry, alpha_entry, covolume_entry, pressure_entry, bare_entry}
use Rattle.pr_params.proofs.Accepted.{bare_positive}
use Rattle.pr_params.proofs.Alpha.{kappa_small}
use Rattle.pr_params.proofs.Bares.{bare_fits}
use Rattle.pr_params.proofs.Components.{component_at, den_positive_at, interaction_at_least, interaction_at_most}
use Rattle.pr_params.proofs.GreatestLift.{fits_at}
use Rattle.pr_params.proofs.ParametersHold.{cohesion_natural, den_positive}
use Rattle.pr_params.proofs.Pressures.{root_positive}
use Rattle.log_laws.proofs.Exports.{ceiling_at_most}
use Rattle.pr_params.proofs.Sizes.{quotient_high}
use Rattle.pr_params.proofs.Temperature.{root_small, ceiling_near}

-- ---- the root of alpha
record IsSmallRoot (v : Ends) : Type 0 where
  low : pos 0 ≤ℤ v.lo
  low_small : v.lo <ℤ pos (2 ^ 53)
  high : pos 0 ≤ℤ v.hi
  high_small : v.hi <ℤ pos (2 ^ 53)

temperature_small : (c : Case) (i : ℕ) → i < c.n → IsSmallRoot (temperature_entry c i)
unfolding temperature_entry
temperature_small c i h =
    let k = component_at c i h in
    let t_high = c.t_high in
    let tc = critical_temperature c i in
    let n = c.t * 4 ^ 48 in
    let r = root_floor c.t tc 48 in
    let some : 0 < tc = omega (arith, k.tc_low) in
    let below : n / tc < 2 ^ 128 = (div-lt_iff_lt-mul some).1 (omega (arith, t_high, k.tc_low)) in
    let floor : IsFloorRootOver r n tc = floor_root_over r n tc some (floor_root_is (n / tc) below) in
    let near = ceiling_near r n tc in
    let small = root_small r c.t tc floor.square k.tc_low t_high in
    record { low = omega (arith, ints); low_small = omega (arith, ints, small); high = omega (arith, ints); high_small = omega (arith, ints, near, small) }

ceiling_small : (z : ℤ) → unsigned_abs z ≤ 2 ^ 62 * 2 ^ 53 → ceil_over z kappa_scale ≤ℤ pos (3 * 2 ^ 54)
ceiling_small (pos n) h =
    let q = ceiling_at_most n kappa_scale (3 * 2 ^ 54) (lit< tt) (omega (arith, h)) in
    rw (ceil_over-pos n kappa_scale (lit< tt)) (omega (arith, ints, q))
ceiling_small (negsuc n) h = omega (arith, ints)

pub alpha_high : (c : Case) (i : ℕ) → i < c.n → (alpha_entry c i).hi ≤ℤ pos (2 ^ 56)
unfolding alpha_entry
alpha_high c i h =
    let k = component_at c i h in
    let kappa = kappa_of c.edition (acentric_factor c i) in
    let small = kappa_small c.edition (acentric_factor c i) k.w_low k.w_high in
    let size : unsigned_abs kappa ≤ 2 ^ 62 = omega (arith, small) in
    let t = temperature_entry c i in
    let root = temperature_small c i h in
    let lo : unsigned_abs (pos (2 ^ 48) -ℤ t.lo) ≤ 2 ^ 53 = omega (arith, ints, root.low, root.low_small) in
    let hi : unsigned_abs (pos (2 ^ 48) -ℤ t.hi) ≤ 2 ^ 53 = omega (arith, ints, root.high, root.high_small) in
    let x = product_at_most kappa (pos (2 ^ 48) -ℤ t.lo) (2 ^ 62) (2 ^ 53) size lo in
    let y = product_at_most kappa (pos (2 ^ 48) -ℤ t.hi) (2 ^ 62) (2 ^ 53) size hi in
    at_most (kappa *ℤ (pos (2 ^ 48) -ℤ t.lo)) (kappa *ℤ (pos (2 ^ 48) -ℤ t.hi)) x y
  where
    at_most : (a b : ℤ) → unsigned_abs a ≤ 2 ^ 62 * 2 ^ 53 → unsigned_abs b ≤ 2 ^ 62 * 2 ^ 53 → (pos (2 ^ 48) +ℤ ceil_over (int_max a b) kappa_scale) ≤ℤ pos (2 ^ 56)
    at_most a b h g =
        let m : unsigned_abs (int_max a b) ≤ 2 ^ 62 * 2 ^ 53 = omega (arith, ints, clamps, h, g) in
        let s = ceiling_small (int_max a b) m in
        omega (arith, ints, s)

-- ---- the attraction without alpha
pub bare_low : (c : Case) (i j : ℕ) → i < c.n → j < c.n → pos 0 ≤ℤ (bare_entry c i j).lo
unfolding bare_entry
bare_low c i j h g = bare_positive c (lift_of c) (pressure_entry c i j) i j h g

pub bare_high : (c : Case) (i j : ℕ) → IsTrue (covolumes_in_range c) → i < c.n → j < c.n → (bare_entry c i j).hi ≤ℤ pos (2 ^ 61)
unfolding bare_entry
bare_high c i j r h g =
    let root = root_positive c i j h g in
    let q : ℕ = unsigned_abs (pressure_entry c i j).lo in
    let is : (pressure_entry c i j).lo ≡ pos q = natural (pressure_entry c i j).lo (omega (arith, ints, root.low)) in
    let some : 0 < q = omega (arith, ints, root.low, is) in
    let low = interaction_at_least c i j h g in
    let high = interaction_at_most c i j h g in
    let rest : ℕ = unsigned_abs (pos 10000 -ℤ interaction c i j) in
    let few : rest ≤ 15000 = omega (arith, ints, low, high) in
    let num : ℕ = rest * (11431 * c.p * critical_temperature c i * critical_temperature c j) * 2 ^ (79 + lift_of c) in
    let den = product_pos (cohesion_den c) q (den_positive c) some in
    let s = ceiling_at_most num (cohesion_den c * q) (2 ^ 61) den (bare_fits c i j rest q r h g few is) in
    rw (cohesion_natural c i j h g, is, ceil_over-pos num (cohesion_den c * q) den) (omega (arith, ints, s))

-- ---- the co-volume
pub covolume_positive : (c : Case) (i : ℕ) → i < c.n → pos 1 ≤ℤ (covolume_entry c i).lo
unfolding covolume_entry
covolume_positive c i h =
    let k = component_at c i h in
    let hot = c.t_high in
    let num = mul-le-mul c.p_low k.tc_low in
    let den = mul-le-mul k.pc_high hot in
    let power : 2 ^ 56 ≤ 2 ^ (56 + lift_of c) = pow-le-pow_right (lit< tt) {i = 56} {j = 56 + lift_of c} (omega arith) in
    let raised = mul-le-mul num power in
    let some : 1 * covolume_den c i ≤ covolume_num c i * 2 ^ (56 + lift_of c) = omega (arith, den, raised) in
    let q : 1 ≤ covolume_num c i * 2 ^ (56 + lift_of c) / covolume_den c i = le-div 1 _ _ (den_positive_at c i h) some in
    omega (arith, ints, q)

pub covolume_high : (c : Case) (i : ℕ) → IsTrue (covolumes_in_range c) → i < c.n → (covolume_entry c i).lo ≤ℤ pos (2 ^ 61)
unfolding covolume_entry
covolume_high c i r h =
    let q = quotient_high (covolume_num c i) (covolume_den c i) (lift_of c) (fits_at c i r h) in
    omega (arith, ints, q)
