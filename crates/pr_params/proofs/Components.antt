-- The ranges of each component of a case, and of each pair.
use Rattle.std.proofs.Common.{◌≡◌, ℕ, ◌<◌, Bool, ℤ, pos, neg_ℤ, ◌≤ℤ◌, ◌&&◌, to_z, of_z, arith}
use Rattle.std.specs.Int.{w32}
use Rattle.std.proofs.lemmas.Int.{ints}
use Rattle.std.specs.Prelude.{int_le}
use Rattle.std.proofs.Math.Nat.{mul-le-mul}
use Rattle.case_types.specs.declared.cases.Case.{Case}
use Rattle.case_types.specs.Energy.Components.{critical_temperature, critical_pressure, acentric_factor, interaction}
use Rattle.case_types.specs.Energy.Parameters.{covolume_den}
use Rattle.case_types.specs.Ranges.{entry, is_interaction, is_critical_temperature, is_critical_pressure, is_acentric_factor}
use Rattle.log_laws.specs.Sums.{all_below}
use Rattle.log_laws.proofs.Exports.{all_below-at, and_true}
use Rattle.pr_params.proofs.Component.{at_most, int_at_most, IsComponent}

-- the ranges of the component hold
pub component_at : (c : Case) (i : ℕ) → i < c.n → IsComponent (critical_temperature c i) (critical_pressure c i) (acentric_factor c i)
component_at c i h =
    let tc = and_true _ _ (all_below-at c.n (λ i. is_critical_temperature (critical_temperature c i)) i h c.tc_range) in
    let pc = and_true _ _ (all_below-at c.n (λ i. is_critical_pressure (critical_pressure c i)) i h c.pc_range) in
    let w = and_true _ _ (all_below-at c.n (λ i. is_acentric_factor (acentric_factor c i)) i h c.w_range) in
    record {
      tc_low = at_most _ _ tc.0;
      tc_high = at_most _ _ tc.1;
      pc_low = at_most _ _ pc.0;
      pc_high = at_most _ _ pc.1;
      w_low = int_at_most _ _ w.0;
      w_high = int_at_most _ _ w.1;
    }

-- an interaction is in its range, and the same the other way round
pub record IsPairOf (k turned : ℤ) : Type 0 where
  pub low : neg_ℤ (pos 5000) ≤ℤ k
  pub high : k ≤ℤ pos 5000
  pub ordered : k ≤ℤ turned

pair_of : (c : Case) (i j : ℕ) → i < c.n → j < c.n → IsPairOf (interaction c i j) (interaction c j i)
pair_of c i j h g =
    let k = c.k in
    let few = c.few in
    let h' : i < 4 = omega (arith, h, few) in
    let g' : j < 4 = omega (arith, g, few) in
    let place : ℕ → ℕ → Bool = λ i j. is_interaction (entry k i j) && int_le (entry k i j) (entry k j i) in
    let rows = (and_true (all_below 4 (λ i. all_below 4 (λ j. place i j))) (all_below 4 (λ i. int_le (entry k i i) (pos 0) && int_le (pos 0) (entry k i i))) c.interactions).0 in
    let row = all_below-at 4 (λ i. all_below 4 (λ j. place i j)) i h' rows in
    let pair = and_true (is_interaction (entry k i j)) (int_le (entry k i j) (entry k j i)) (all_below-at 4 (λ j. place i j) j g' row) in
    let range = and_true (int_le (neg_ℤ (pos 5000)) (entry k i j)) (int_le (entry k i j) (pos 5000)) pair.0 in
    record {
      low = int_at_most (neg_ℤ (pos 5000)) (entry k i j) range.0;
      high = int_at_most (entry k i j) (pos 5000) range.1;
      ordered = int_at_most (entry k i j) (entry k j i) pair.1;
    }

pub interaction_at_most : (c : Case) (i j : ℕ) → i < c.n → j < c.n → interaction c i j ≤ℤ pos 5000
interaction_at_most c i j h g = (pair_of c i j h g).high

pub interaction_at_least : (c : Case) (i j : ℕ) → i < c.n → j < c.n → neg_ℤ (pos 5000) ≤ℤ interaction c i j
interaction_at_least c i j h g = (pair_of c i j h g).low

-- it is read as it is
pub interaction_read : (c : Case) (i j : ℕ) → i < c.n → j < c.n → to_z w32 (of_z w32 (interaction c i j)) ≡ interaction c i j
interaction_read c i j h g =
    let low = interaction_at_least c i j h g in
    let high = interaction_at_most c i j h g in
    omega (arith, ints, low, high)

pub interaction_turned : (c : Case) (i j : ℕ) → i < c.n → j < c.n → interaction c i j ≡ interaction c j i
interaction_turned c i j h g =
    both (interaction c i j) (interaction c j i) (pair_of c i j h g).ordered (pair_of c j i g h).ordered
  where
    both : (a b : ℤ) → a ≤ℤ b → b ≤ℤ a → a ≡ b
    both a b l m = omega (arith, ints, l, m)

-- the denominator of its co-volume is positive
pub den_positive_at : (c : Case) (i : ℕ) → i < c.n → 0 < covolume_den c i
den_positive_at c i h =
    let k = component_at c i h in
    let p = mul-le-mul k.pc_low c.t_low in
    omega (arith, p)

-- and 0 of a component with itself
pub interaction_own : (c : Case) (i : ℕ) → i < c.n → interaction c i i ≡ pos 0
interaction_own c i h =
    let few = c.few in
    let l : i < 4 = omega (arith, h, few) in
    let own : ℕ → Bool = λ i. int_le (entry c.k i i) (pos 0) && int_le (pos 0) (entry c.k i i) in
    let place : ℕ → ℕ → Bool = λ i j. is_interaction (entry c.k i j) && int_le (entry c.k i j) (entry c.k j i) in
    let at = all_below-at 4 own i l (and_true (all_below 4 (λ i. all_below 4 (λ j. place i j))) (all_below 4 own) c.interactions).1 in
    let both = and_true (int_le (entry c.k i i) (pos 0)) (int_le (pos 0) (entry c.k i i)) at in
    is_zero (interaction c i i) (int_at_most (entry c.k i i) (pos 0) both.0) (int_at_most (pos 0) (entry c.k i i) both.1)
  where
    is_zero : (a : ℤ) → a ≤ℤ pos 0 → pos 0 ≤ℤ a → a ≡ pos 0
    is_zero a l m = omega (arith, ints, l, m)
