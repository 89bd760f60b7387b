-- The printed pairs of a case hold the roots and the logarithm of e.
use Rattle.std.proofs.Common.{◌≡◌, ℕ, zero, suc, ◌+◌, ◌*◌, ◌/◌, ◌^◌, ◌<◌, ◌≤◌, nat_lt, cond, refl, arith, lit<}
use Rattle.std.proofs.lemmas.Int.{ints}
use Rattle.std.proofs.Math.Nat.{mul-le-mul, div-lt_iff_lt-mul}
use Rattle.log_laws.specs.Between.{Ends}
use Rattle.log_laws.specs.LogE.{log_e_ends}
use Rattle.log_laws.specs.Roots.{root_ends, root_floor, ceiling_from}
use Rattle.root_enclose.proofs.Exports.{floor_root_is, IsFloorRootOver, floor_root_over, floor-le-ceiling, ceiling_covers}
use Rattle.log_enclose.proofs.Exports.{holds_log_e_ends}
use Rattle.case_types.specs.declared.cases.Case.{Case}
use Rattle.case_types.specs.Energy.Components.{critical_temperature, critical_pressure}
use Rattle.case_types.specs.Energy.Instances.{HoldsRoot, AreRight, pair_place}
use Rattle.case_types.specs.Arithmetic.Numbers.{enclosures_of, pressure_root_ends}
use Rattle.case_types.specs.Arithmetic.Tables.{ends_at, no_ends}
use Rattle.log_laws.proofs.Exports.{get_or-list_below}
use Rattle.pr_params.proofs.Components.{component_at}
use Rattle.pr_params.proofs.Faulted.{lt_yes}

-- ---- a root of at least 1 and below 2 ^ 64
some_root : (r n den : ℕ) → den ≤ n → n < (r + 1) * (r + 1) * den → 0 < r
some_root zero n den h k = absurd (omega (arith, h, k))
some_root (suc r) n den h k = omega arith

pub root_holds : (num den scale : ℕ) → 0 < den → den ≤ num * 4 ^ scale → num * 4 ^ scale < 2 ^ 128 * den → HoldsRoot (root_ends num den scale) num den scale
root_holds num den scale some more less =
    let n = num * 4 ^ scale in
    let r = root_floor num den scale in
    let small : n / den < 2 ^ 128 = (div-lt_iff_lt-mul some).1 less in
    let floor : IsFloorRootOver r n den = floor_root_over r n den some (floor_root_is (n / den) small) in
    let low : 0 < r = some_root r n den more floor.next in
    let order : r ≤ ceiling_from r n den = floor-le-ceiling r n den in
    let square = floor.square in
    let covers = ceiling_covers r n den floor in
    record {
      positive = omega (arith, ints, low);
      positive_above = omega (arith, ints, low, order);
      above = omega (arith, ints, square);
      below = omega (arith, ints, covers);
    }

-- ---- the roots of a case
pub temperature_root_holds : (c : Case) (i : ℕ) → i < c.n → HoldsRoot (root_ends c.t (critical_temperature c i) 48) c.t (critical_temperature c i) 48
temperature_root_holds c i h =
    let k = component_at c i h in
    let low = c.t_low in
    let high = c.t_high in
    root_holds c.t (critical_temperature c i) 48 (omega (arith, k.tc_low)) (omega (arith, k.tc_high, low)) (omega (arith, k.tc_low, high))

product_holds : (a b : ℕ) → 100000 ≤ a → a ≤ 50000000 → 100000 ≤ b → b ≤ 50000000 → HoldsRoot (root_ends (a * b) 1 32) (a * b) 1 32
product_holds a b al ah bl bh =
    let low = mul-le-mul al bl in
    let high = mul-le-mul ah bh in
    root_holds (a * b) 1 32 (omega arith) (omega (arith, low)) (omega (arith, high))

pub live : (j n : ℕ) (v : Ends) → j < n → cond (nat_lt j n) v no_ends ≡ v
live j n v h = rw (lt_yes j n h) refl

pair_holds : (c : Case) (i j : ℕ) → i < j → j < c.n →
    HoldsRoot (pressure_root_ends c i j) (critical_pressure c i * critical_pressure c j) 1 32
pair_holds c i j h g =
    let a = component_at c i (omega (arith, h, g)) in
    let b = component_at c j g in
    rw (live j c.n (root_ends (critical_pressure c i * critical_pressure c j) 1 32) g)
    (product_holds (critical_pressure c i) (critical_pressure c j) a.pc_low a.pc_high b.pc_low b.pc_high)

-- the pairs stand in their places
pub pair_at : (c : Case) (i j : ℕ) → i < j → j < 4 → ends_at (enclosures_of c).pressure_roots (pair_place i j) ≡ pressure_root_ends c i j
unfolding enclosures_of
pair_at c zero zero h g = absurd (omega (arith, h))
pair_at c zero (suc zero) h g = refl
pair_at c zero (suc (suc zero)) h g = refl
pair_at c zero (suc (suc (suc zero))) h g = refl
pair_at c zero (suc (suc (suc (suc j)))) h g = absurd (omega (arith, g))
pair_at c (suc zero) zero h g = absurd (omega (arith, h))
pair_at c (suc zero) (suc zero) h g = absurd (omega (arith, h))
pair_at c (suc zero) (suc (suc zero)) h g = refl
pair_at c (suc zero) (suc (suc (suc zero))) h g = refl
pair_at c (suc zero) (suc (suc (suc (suc j)))) h g = absurd (omega (arith, g))
pair_at c (suc (suc zero)) zero h g = absurd (omega (arith, h))
pair_at c (suc (suc zero)) (suc zero) h g = absurd (omega (arith, h))
pair_at c (suc (suc zero)) (suc (suc zero)) h g = absurd (omega (arith, h))
pair_at c (suc (suc zero)) (suc (suc (suc zero))) h g = refl
pair_at c (suc (suc zero)) (suc (suc (suc (suc j)))) h g = absurd (omega (arith, g))
pair_at c (suc (suc (suc i))) j h g = absurd (omega (arith, h, g))

pub temperature_at : (c : Case) (i : ℕ) → i < c.n → ends_at (enclosures_of c).temperature_roots i ≡ root_ends c.t (critical_temperature c i) 48
unfolding enclosures_of
temperature_at c i h = get_or-list_below c.n (λ i. root_ends c.t (critical_temperature c i) 48) no_ends i h

-- the pairs of roots and of the logarithm that are the same for all cases
two_is : (c : Case) → (enclosures_of c).root_two ≡ root_ends 2 1 60
unfolding enclosures_of
two_is c = refl

log_e_is : (c : Case) → (enclosures_of c).log_e ≡ log_e_ends
unfolding enclosures_of
log_e_is c = refl

-- every printed pair holds what it stands for
pub enclosures_right : (c : Case) → AreRight c (enclosures_of c)
enclosures_right c = record {
  root_two = rw (two_is c) (root_holds 2 1 60 (lit< tt) (omega arith) (omega arith));
  log_e = rw (log_e_is c) holds_log_e_ends;
  temperature_roots = λ i h. rw (temperature_at c i h) (temperature_root_holds c i h);
  pressure_roots = λ i j h g. rw (pair_at c i j h (let few = c.few in omega (arith, g, few))) (pair_holds c i j h g);
}
