-- How large the attraction of two components without alpha is, and that it is the same either way round.
use Rattle.std.proofs.Common.{◌≡◌, ℕ, ◌+◌, ◌*◌, ◌/◌, ◌^◌, ◌<◌, ◌≤◌, IsTrue, refl, ap, ◌∙◌, arith, inl, inr, ℤ, pos}
use Rattle.std.proofs.Math.Nat.{mul-le-mul_left, mul-le-mul_right, pow-suc, pow-zero, one-mul}
use Rattle.std.proofs.lemmas.Bool.{cases_lt}
use Rattle.std.proofs.lemmas.Int.{ints}
use Rattle.std.proofs.lemmas.Nat.{pow-add}
use Rattle.log_laws.specs.Between.{Ends}
use Rattle.log_laws.specs.Whole.{ceil_quotient}
use Rattle.log_laws.proofs.Exports.{ceil_over-pos}
use Rattle.log_laws.specs.Interval.{ends}
use Rattle.case_types.specs.declared.cases.Case.{Case}
use Rattle.case_types.specs.Energy.Components.{critical_temperature, critical_pressure}
use Rattle.case_types.specs.Arithmetic.Faults.{covolumes_in_range}
use Rattle.case_types.specs.Arithmetic.Numbers.{lift_of}
use Rattle.case_types.specs.Energy.Parameters.{covolume_num, covolume_den, cohesion_num, cohesion_den}
use Rattle.pr_params.specs.Entries.{pressure_entry, bare_entry}
use Rattle.pr_params.proofs.Components.{component_at, interaction_turned}
use Rattle.pr_params.proofs.GreatestLift.{fits_at}
use Rattle.pr_params.proofs.Pressures.{pressure_sizes, pressure_turned}

square : (t : ℕ) → t ^ 2 ≡ t * t
square t = pow-suc t 1 ∙ ap (λ x. x * t) (pow-suc t 0 ∙ ap (λ x. x * t) (pow-zero t) ∙ one-mul t)

-- the attraction without alpha is at most 2 ^ 14, by the lesser critical pressure
fits_over : (c : Case) (i j k lift : ℕ) → k ≤ 15000 → critical_temperature c j ≤ 30 * c.t → covolume_num c i * 2 ^ lift ≤ 32 * covolume_den c i →
    k * (11431 * c.p * critical_temperature c i * critical_temperature c j) * 2 ^ (79 + lift) ≤ 2 ^ 61 * (cohesion_den c * (critical_pressure c i * 2 ^ 32))
fits_over c i j k lift few hot h = rw (pow-add 2 79 lift, square c.t) (
    let a = mul-le-mul_left (c.p * critical_temperature c i * 2 ^ lift) hot in
    let b = mul-le-mul_right c.t h in
    let d = mul-le-mul_right (c.p * critical_temperature c i * critical_temperature c j * 2 ^ lift) few in
    omega (arith, a, b, d))

-- of components of which the first has the lesser critical pressure
fits_where : (c : Case) (i j k q : ℕ) → IsTrue (covolumes_in_range c) → i < c.n → j < c.n → critical_pressure c i ≤ critical_pressure c j → k ≤ 15000 →
    (pressure_entry c i j).lo ≡ pos q →
    k * (11431 * c.p * critical_temperature c i * critical_temperature c j) * 2 ^ (79 + lift_of c) ≤ 2 ^ 61 * (cohesion_den c * q)
fits_where c i j k q r h g less few e =
    let s = pressure_sizes c i j (critical_pressure c i) h g (omega arith) less in
    let low : critical_pressure c i * 2 ^ 32 ≤ q = omega (arith, ints, e, s.low) in
    let b = component_at c j g in
    let t_low = c.t_low in
    let fits = fits_over c i j k (lift_of c) few (omega (arith, b.tc_high, t_low)) (fits_at c i r h) in
    let more = mul-le-mul_left (cohesion_den c) low in
    omega (arith, fits, more)

pub bare_fits : (c : Case) (i j k q : ℕ) → IsTrue (covolumes_in_range c) → i < c.n → j < c.n → k ≤ 15000 → (pressure_entry c i j).lo ≡ pos q →
    k * (11431 * c.p * critical_temperature c i * critical_temperature c j) * 2 ^ (79 + lift_of c) ≤ 2 ^ 61 * (cohesion_den c * q)
bare_fits c i j k q r h g few e =
    elim (cases_lt (critical_pressure c j) (critical_pressure c i)) [
      | inl less ↦
          let turned = ap (λ (v : Ends). v.lo) (pressure_turned c j i g h) ∙ e in
          let f = fits_where c j i k q r g h (omega (arith, less)) few turned in omega (arith, f)
      | inr more ↦ fits_where c i j k q r h g more few e
    ]

-- ---- what is computed of a pair
pub bare_made : (c : Case) (i j n g q r lift : ℕ) (lo hi : ℤ) → 0 < g * q → lift ≡ lift_of c → pos n ≡ cohesion_num c i j → g ≡ cohesion_den c →
    ends (pos q) (pos r) ≡ pressure_entry c i j → lo ≡ pos (n * 2 ^ (79 + lift) / (g * r)) → hi ≡ pos (ceil_quotient (n * 2 ^ (79 + lift)) (g * q)) →
    ends lo hi ≡ bare_entry c i j
unfolding bare_entry
bare_made c i j n g q r lift lo hi some l num den root low high =
    rw (low, high, ← ceil_over-pos (n * 2 ^ (79 + lift)) (g * q) some, ← num, ← l, ← root, den) refl

-- ---- the same either way round
cohesion_turned : (c : Case) (i j : ℕ) → i < c.n → j < c.n → cohesion_num c i j ≡ cohesion_num c j i
cohesion_turned c i j h g =
    let turned : 11431 * c.p * critical_temperature c i * critical_temperature c j ≡ 11431 * c.p * critical_temperature c j * critical_temperature c i = omega arith in
    rw (interaction_turned c i j h g, turned) refl

pub bare_turned : (c : Case) (i j : ℕ) → i < c.n → j < c.n → bare_entry c i j ≡ bare_entry c j i
unfolding bare_entry
bare_turned c i j h g = rw (cohesion_turned c i j h g, pressure_turned c i j h g) refl
