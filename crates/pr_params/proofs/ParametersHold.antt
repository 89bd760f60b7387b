-- The numbers of a case that breaks no range hold the parameters of every instance.
use Rattle.std.proofs.Common.{◌≡◌, ℕ, ◌+◌, ◌*◌, ◌^◌, ◌<◌, ◌≤◌, ℤ, pos, negsuc, ◌-ℤ◌, ◌*ℤ◌, ◌≤ℤ◌, ◌<ℤ◌, unsigned_abs, refl, arith, inl, inr, lit<, None}
use Rattle.std.specs.Prelude.{int_lt}
use Rattle.std.proofs.lemmas.Bool.{cases_lt}
use Rattle.std.proofs.lemmas.Int.{ints}
use Rattle.std.proofs.lemmas.Nat.{pow_pos}
use Rattle.log_laws.specs.Between.{Ends, IsBetween}
use Rattle.log_laws.specs.Fraction.{Fraction, whole}
use Rattle.log_laws.proofs.Exports.{pow_pos_of}
use Rattle.case_types.specs.declared.cases.Case.{Case}
use Rattle.case_types.specs.declared.cases.ParamFault.TheVariants.{MRange}
use Rattle.case_types.specs.Energy.Components.{critical_temperature, critical_pressure, acentric_factor, interaction}
use Rattle.case_types.specs.Arithmetic.Faults.{fault_of, alpha_fault}
use Rattle.case_types.specs.Arithmetic.Holding.{HoldsParameters}
use Rattle.case_types.specs.Energy.Instances.{Enclosures, AreRight, Instance, IsInstance}
use Rattle.case_types.specs.Arithmetic.Numbers.{numbers_of, enclosures_of, lift_of, covolume_ends, alpha_root_ends, bare_attraction_ends, pressure_root_of}
use Rattle.case_types.specs.Energy.Parameters.{kappa_of, kappa_scale, covolume_num, covolume_den, covolume, alpha_root, bare_attraction, cohesion_num, cohesion_den}
use Rattle.case_types.specs.Arithmetic.Tables.{ends_at, ends_of_pair}
use Rattle.pr_params.proofs.Accepted.{bare_positive}
use Rattle.pr_params.proofs.AtComponents.{lift_of_numbers, two_of_numbers, log_e_of_numbers, alpha_root_at, covolume_at, bare_attraction_at, attraction_at}
use Rattle.pr_params.proofs.Attracted.{bare_within, attraction_within}
use Rattle.pr_params.proofs.Below.{or_else_none, first_below_none}
use Rattle.pr_params.proofs.Components.{component_at, interaction_at_most, den_positive_at}
use Rattle.pr_params.proofs.Enclosed.{quotient_within, line_within}
use Rattle.pr_params.proofs.Faulted.{lt_yes, lt_no}
use Rattle.pr_params.proofs.Right.{enclosures_right}
use Rattle.pr_params.proofs.Sizes.{where_none, not_less}

-- ---- the co-volume and the root of alpha
pub covolume_within : (c : Case) (lift i : ℕ) → i < c.n → IsBetween (covolume_ends c lift i) (2 ^ (56 + lift)) (covolume c i)
covolume_within c lift i h =
    quotient_within (covolume_num c i) (covolume_den c i) (2 ^ (56 + lift)) (den_positive_at c i h)

pub alpha_root_within : (c : Case) (x : Instance) (t : Ends) (i : ℕ) → IsBetween t (2 ^ 48) (x.temperature_root i) →
    IsBetween (alpha_root_ends c t i) (2 ^ 48) (alpha_root c x i)
alpha_root_within c x t i h = line_within (kappa_of c.edition (acentric_factor c i)) t (x.temperature_root i) (2 ^ 48) kappa_scale (lit< tt) h

-- ---- the root of two critical pressures
-- it is positive and lies between its ends
pub record IsRootIn (v : Ends) (f : Fraction) : Type 0 where
  pub positive : pos 0 <ℤ v.lo
  pub between : IsBetween v (2 ^ 32) f

own_root : (pc : ℕ) → 100000 ≤ pc → IsRootIn (record { lo = pos (pc * 2 ^ 32); hi = pos (pc * 2 ^ 32) }) (whole (pos pc))
own_root pc low = record {
  positive = omega (arith, ints, low);
  between = record { is_fraction = lit< tt; above = omega (arith, ints); below = omega (arith, ints) };
}

pub pressure_root_in : (c : Case) (e : Enclosures) (x : Instance) (i j : ℕ) → AreRight c e → IsInstance c e x → i < c.n → j < c.n →
    IsRootIn (pressure_root_of c e.pressure_roots i j) (x.pressure_root i j)
pressure_root_in c e x i j r h hi hj =
    elim (cases_lt i j) [
      | inl less ↦
          let yes = lt_yes i j less in
          rw yes (record { positive = (r.pressure_roots i j less hj).positive; between = h.pressure_root i j less hj })
      | inr more ↦
          let no = lt_no i j more in
          elim (cases_lt j i) [
            | inl less ↦
                let yes = lt_yes j i less in
                rw (no, yes, h.either_way i j) (record { positive = (r.pressure_roots j i less hi).positive; between = h.pressure_root j i less hi })
            | inr same ↦
                let is : j ≡ i = omega (arith, more, same) in
                let no' = lt_no i i (omega arith) in
                rw (is, no', h.own_pressure i hi) (own_root (critical_pressure c i) (component_at c i hi).pc_low)
          ]
    ]

-- ---- the attraction without alpha
natural_product : (z : ℤ) (n : ℕ) → pos 0 ≤ℤ z → z *ℤ pos n ≡ pos (unsigned_abs z * n)
natural_product (pos a) n h = refl
natural_product (negsuc a) n h = absurd (omega (arith, ints, h))

pub cohesion_natural : (c : Case) (i j : ℕ) → i < c.n → j < c.n →
    cohesion_num c i j ≡ pos (unsigned_abs (pos 10000 -ℤ interaction c i j) * (11431 * c.p * critical_temperature c i * critical_temperature c j))
cohesion_natural c i j h g =
    let k = interaction_at_most c i j h g in
    natural_product (pos 10000 -ℤ interaction c i j) (11431 * c.p * critical_temperature c i * critical_temperature c j) (omega (arith, ints, k))

pub den_positive : (c : Case) → 0 < cohesion_den c
den_positive c =
    let low = c.t_low in
    let square = pow_pos_of c.t 2 (omega (arith, low)) in
    omega (arith, square)

pub bare_attraction_within : (c : Case) (x : Instance) (lift : ℕ) (q : Ends) (i j : ℕ) → i < c.n → j < c.n → IsRootIn q (x.pressure_root i j) →
    IsBetween (bare_attraction_ends c lift q i j) (2 ^ (47 + lift)) (bare_attraction c x i j)
bare_attraction_within c x lift q i j h g k =
    rw (cohesion_natural c i j h g)
    (bare_within (unsigned_abs (pos 10000 -ℤ interaction c i j) * (11431 * c.p * critical_temperature c i * critical_temperature c j)) (cohesion_den c) lift q (x.pressure_root i j)
    (den_positive c) k.positive k.between)

-- ---- the root of alpha of an accepted case
pub alpha_large : (c : Case) (i : ℕ) → i < c.n → fault_of c ≡ None → pos (2 ^ 38) ≤ℤ (ends_at (numbers_of c).alpha_roots i).lo
unfolding fault_of
alpha_large c i h e =
    let later = (or_else_none _ _ (or_else_none _ _ e).1).1 in
    let all = (or_else_none _ _ later).0 in
    let here = first_below_none c.n (alpha_fault (numbers_of c)) i h all in
    not_less (ends_at (numbers_of c).alpha_roots i).lo (pos (2 ^ 38)) (where_none (int_lt (ends_at (numbers_of c).alpha_roots i).lo (pos (2 ^ 38))) (MRange (i + 1)) here)

-- ---- all parameters
pub holds_parameters : (c : Case) (x : Instance) → fault_of c ≡ None → IsInstance c (enclosures_of c) x → HoldsParameters c (numbers_of c) x
holds_parameters c x e h =
    let p = numbers_of c in
    let alpha : (i : ℕ) → i < c.n → IsBetween (ends_at p.alpha_roots i) (2 ^ 48) (alpha_root c x i) = λ i l.
    rw (alpha_root_at c i l) (alpha_root_within c x (ends_at (enclosures_of c).temperature_roots i) i (h.temperature_root i l)) in
    let bare : (i j : ℕ) → i < c.n → j < c.n → IsBetween (ends_of_pair p.bare_attractions i j) (2 ^ (47 + p.lift)) (bare_attraction c x i j) = λ i j l m.
    rw (bare_attraction_at c i j l m, lift_of_numbers c)
    (bare_attraction_within c x (lift_of c) _ i j l m (pressure_root_in c (enclosures_of c) x i j (enclosures_right c) h l m)) in
    record {
      root_two = rw (two_of_numbers c) h.root_two;
      log_e = rw (log_e_of_numbers c) h.log_e;
      alpha_root = alpha;
      covolume = λ i l. rw (covolume_at c i l, lift_of_numbers c) (covolume_within c (lift_of c) i l);
      bare_attraction = bare;
      attraction = λ i j l m.
          let low : pos 0 ≤ℤ (ends_of_pair p.bare_attractions i j).lo =
          rw (bare_attraction_at c i j l m) (bare_positive c (lift_of c) (pressure_root_of c (enclosures_of c).pressure_roots i j) i j l m) in
          let first = alpha_large c i l e in
          let second = alpha_large c j m e in
          rw (attraction_at c i j l m)
          (attraction_within (ends_of_pair p.bare_attractions i j) (ends_at p.alpha_roots i) (ends_at p.alpha_roots j) p.lift
          (bare_attraction c x i j) (alpha_root c x i) (alpha_root c x j) low (omega (arith, ints, first)) (omega (arith, ints, second)) (pow_pos (47 + p.lift))
          (bare i j l m) (alpha i l) (alpha j m));
    }
