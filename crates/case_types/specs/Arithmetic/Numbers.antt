-- The printed pairs and the parameters of a case in whole numbers, and the ranges that refuse a case.
use Rattle.std.specs.Prelude.{ℕ, zero, suc, ◌+◌, ◌*◌, ◌^◌, List, [], ◌∷◌, Bool, cond, nat_le, nat_lt, ℤ, pos, ◌+ℤ◌, ◌-ℤ◌, ◌*ℤ◌}
use Rattle.std.specs.Int.{int_min, int_max}
use Rattle.log_laws.specs.LogE.{log_e_ends}
use Rattle.case_types.specs.declared.cases.Case.{Case}
use Rattle.case_types.specs.Energy.Components.{critical_temperature, critical_pressure, acentric_factor}
use Rattle.case_types.specs.Energy.Instances.{Enclosures, pair_place}
use Rattle.case_types.specs.Energy.Parameters.{kappa_of, kappa_scale, covolume_num, covolume_den, cohesion_num, cohesion_den}
use Rattle.log_laws.specs.Sums.{all_below, list_below, greatest_below}
use Rattle.log_laws.specs.Between.{Ends}
use Rattle.log_laws.specs.Roots.{root_ends}
use Rattle.log_laws.specs.Whole.{floor_div, ceil_div}
use Rattle.case_types.specs.Arithmetic.Tables.{ends_at, ends_of_pair, no_ends}

-- ---- the printed pairs
-- of the pair of components i < j, and none for a component that isn't there
abbrev pub pressure_root_ends : Case → ℕ → ℕ → Ends
pressure_root_ends c i j =
    cond (nat_lt j c.n) (root_ends (critical_pressure c i * critical_pressure c j) 1 32) no_ends

unfoldable pub enclosures_of : Case → Enclosures
enclosures_of c = record {
  root_two = root_ends 2 1 60;
  log_e = log_e_ends;
  temperature_roots = list_below c.n (λ i. root_ends c.t (critical_temperature c i) 48);
  pressure_roots =
      pressure_root_ends c 0 1 ∷ pressure_root_ends c 0 2 ∷ pressure_root_ends c 0 3
      ∷ pressure_root_ends c 1 2 ∷ pressure_root_ends c 1 3 ∷ pressure_root_ends c 2 3 ∷ [];
}

-- ---- the parameters
-- the numbers that bounds of energies are made of: b in 2^-(56+lift), a in 2^-(49+lift), rho in 2^-40
pub record Numbers : Type 0 where
  pub count : ℕ
  pub lift : ℕ
  pub root_two : Ends
  pub log_e : Ends
  pub alpha_roots : List Ends
  pub covolumes : List Ends
  pub bare_attractions : List (List Ends)
  pub attractions : List (List Ends)
  pub rho : ℤ

-- 2 ^ lift times the covolume is at most 32
abbrev pub fits_lifted : Case → ℕ → ℕ → Bool
fits_lifted c lift i = nat_le (covolume_num c i * 2 ^ lift) (32 * covolume_den c i)

-- the greatest lift, at most the given one, with which every covolume fits
unfoldable pub lift_up_to : Case → ℕ → ℕ
lift_up_to c zero = 0
lift_up_to c (suc k) = cond (all_below c.n (λ i. fits_lifted c (suc k) i)) (suc k) (lift_up_to c k)

abbrev pub lift_of : Case → ℕ
lift_of c = lift_up_to c 29

-- in 2^-(56+lift)
abbrev pub covolume_ends : Case → ℕ → ℕ → Ends
covolume_ends c lift i =
    let num = pos (covolume_num c i * 2 ^ (56 + lift)) in
    let den = pos (covolume_den c i) in
    record { lo = floor_div num den; hi = ceil_div num den }

-- kappa times 1 less the root of T over Tc, at an end of that root, in 2^-48 times 1e-18
abbrev pub alpha_slope : Case → ℕ → ℤ → ℤ
alpha_slope c i root = kappa_of c.edition (acentric_factor c i) *ℤ (pos (2 ^ 48) -ℤ root)

-- in 2^-48
abbrev pub alpha_root_ends : Case → Ends → ℕ → Ends
alpha_root_ends c t i = record {
  lo = pos (2 ^ 48) +ℤ floor_div (int_min (alpha_slope c i t.lo) (alpha_slope c i t.hi)) (pos kappa_scale);
  hi = pos (2 ^ 48) +ℤ ceil_div (int_max (alpha_slope c i t.lo) (alpha_slope c i t.hi)) (pos kappa_scale);
}

-- of the root of the product of two critical pressures, which is exact for one component
abbrev pub pressure_root_of : Case → List Ends → ℕ → ℕ → Ends
pressure_root_of c qs i j =
    let own = pos (critical_pressure c i * 2 ^ 32) in
    cond (nat_lt i j) (ends_at qs (pair_place i j))
    (cond (nat_lt j i) (ends_at qs (pair_place j i)) (record { lo = own; hi = own }))

-- in 2^-(47+lift)
abbrev pub bare_attraction_ends : Case → ℕ → Ends → ℕ → ℕ → Ends
bare_attraction_ends c lift q i j =
    let num = cohesion_num c i j *ℤ pos (2 ^ (79 + lift)) in
    let den = pos (cohesion_den c) in
    record { lo = floor_div num (den *ℤ q.hi); hi = ceil_div num (den *ℤ q.lo) }

-- in 2^-(49+lift)
abbrev pub attraction_ends : Ends → Ends → Ends → Ends
attraction_ends h m n = record {
  lo = floor_div (h.lo *ℤ floor_div (m.lo *ℤ n.lo) (pos (2 ^ 48))) (pos (2 ^ 46));
  hi = ceil_div (h.hi *ℤ ceil_div (m.hi *ℤ n.hi) (pos (2 ^ 48))) (pos (2 ^ 46));
}

-- the greatest attraction over a covolume, in 2^-40
abbrev pub greatest_ratio : ℕ → List (List Ends) → List Ends → ℤ
greatest_ratio n «as» bs =
    greatest_below n (λ i. greatest_below n (λ j.
    ceil_div ((ends_of_pair «as» i j).hi *ℤ pos (2 ^ 47)) (ends_at bs i).lo) (pos 0)) (pos 0)

abbrev pub table_below : ℕ → (ℕ → ℕ → Ends) → List (List Ends)
table_below n f = list_below n (λ i. list_below n (λ j. f i j))

-- from the lift, the printed pairs and what is made of them
abbrev pub numbers_from : Case → ℕ → Enclosures → List Ends → List Ends → List (List Ends) → List (List Ends) → Numbers
numbers_from c lift e ms bs hs «as» = record {
  count = c.n;
  lift = lift;
  root_two = e.root_two;
  log_e = e.log_e;
  alpha_roots = ms;
  covolumes = bs;
  bare_attractions = hs;
  attractions = «as»;
  rho = greatest_ratio c.n «as» bs;
}

abbrev pub attractions_from : Case → List Ends → List (List Ends) → List (List Ends)
attractions_from c ms hs = table_below c.n (λ i j. attraction_ends (ends_of_pair hs i j) (ends_at ms i) (ends_at ms j))

abbrev pub numbers_with_bare : Case → ℕ → Enclosures → List Ends → List Ends → List (List Ends) → Numbers
numbers_with_bare c lift e ms bs hs = numbers_from c lift e ms bs hs (attractions_from c ms hs)

abbrev pub numbers_with : Case → ℕ → Enclosures → Numbers
numbers_with c lift e =
    numbers_with_bare c lift e
    (list_below c.n (λ i. alpha_root_ends c (ends_at e.temperature_roots i) i))
    (list_below c.n (λ i. covolume_ends c lift i))
    (table_below c.n (λ i j. bare_attraction_ends c lift (pressure_root_of c e.pressure_roots i j) i j))

unfoldable pub numbers_of : Case → Numbers
numbers_of c = numbers_with c (lift_of c) (enclosures_of c)
