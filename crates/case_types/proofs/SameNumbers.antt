-- Cases with the same live components have the same numbers and the same fault.
use Rattle.std.proofs.Common.{◌≡◌, ℕ, zero, suc, ◌*◌, ◌<◌, List, refl, subst, arith, Bool, true, false, Option}
use Rattle.std.specs.Prelude.{cond, nat_lt}
use Rattle.std.proofs.lemmas.Bool.{ltb-true}
use Rattle.log_laws.specs.Between.{Ends}
use Rattle.log_laws.specs.Roots.{root_ends}
use Rattle.log_laws.specs.Sums.{all_below, list_below}
use Rattle.case_types.specs.declared.cases.Case.{Case}
use Rattle.case_types.specs.Arithmetic.Faults.{first_below, fault_of, covolumes_in_range, covolumes_are_near, is_near, is_tiny}
use Rattle.case_types.specs.Arithmetic.Numbers.{numbers_of, numbers_with, enclosures_of, lift_up_to, fits_lifted, covolume_ends, alpha_root_ends, bare_attraction_ends, pressure_root_of, pressure_root_ends, table_below}
use Rattle.case_types.specs.Arithmetic.Tables.{ends_at, no_ends}
use Rattle.case_types.specs.Energy.Components.{critical_temperature, critical_pressure}
use Rattle.case_types.specs.Energy.Instances.{Enclosures}
use Rattle.case_types.specs.Energy.Parameters.{covolume_num, covolume_den, cohesion_num, cohesion_den}
use Rattle.case_types.specs.Arithmetic.Same.{AreCasesSame}
use Rattle.log_laws.proofs.Exports.{all_below-same, list_below-same}

-- ---- the first that is there
pub first_below-same : {X : Type 0} → (n : ℕ) (f g : ℕ → Option X) → ((i : ℕ) → i < n → f i ≡ g i) → first_below n f ≡ first_below n g
unfolding first_below
first_below-same zero f g h = refl
first_below-same (suc n) f g h = rw (first_below-same n f g (λ i l. h i (omega (arith, l))), h n (omega arith)) refl

-- ---- of a component
covolume_num-same : (c d : Case) (i : ℕ) → AreCasesSame c d → i < c.n → covolume_num c i ≡ covolume_num d i
covolume_num-same c d i s l = rw (s.pressure, s.tc i l) refl

covolume_den-same : (c d : Case) (i : ℕ) → AreCasesSame c d → i < c.n → covolume_den c i ≡ covolume_den d i
covolume_den-same c d i s l = rw (s.temperature, s.pc i l) refl

fits-same : (c d : Case) (lift i : ℕ) → AreCasesSame c d → i < c.n → fits_lifted c lift i ≡ fits_lifted d lift i
fits-same c d lift i s l = rw (covolume_num-same c d i s l, covolume_den-same c d i s l) refl

tiny-same : (c d : Case) (i : ℕ) → AreCasesSame c d → i < c.n → is_tiny c i ≡ is_tiny d i
tiny-same c d i s l = rw (covolume_num-same c d i s l, covolume_den-same c d i s l) refl

covolume_ends-same : (c d : Case) (lift i : ℕ) → AreCasesSame c d → i < c.n → covolume_ends c lift i ≡ covolume_ends d lift i
covolume_ends-same c d lift i s l = rw (covolume_num-same c d i s l, covolume_den-same c d i s l) refl

alpha_root-same : (c d : Case) (t : Ends) (i : ℕ) → AreCasesSame c d → i < c.n → alpha_root_ends c t i ≡ alpha_root_ends d t i
alpha_root-same c d t i s l = rw (s.edition, s.w i l) refl

-- ---- the lift
lift-same : (c d : Case) (k : ℕ) → AreCasesSame c d → lift_up_to c k ≡ lift_up_to d k
unfolding lift_up_to
lift-same c d zero s = refl
lift-same c d (suc k) s =
    rw (all_below-same c.n (λ i. fits_lifted c (suc k) i) (λ i. fits_lifted d (suc k) i) (λ i l. fits-same c d (suc k) i s l), s.count, lift-same c d k s) refl

-- ---- the printed pairs
pressure_root-same : (c d : Case) (i j : ℕ) → AreCasesSame c d → i < j → pressure_root_ends c i j ≡ pressure_root_ends d i j
pressure_root-same c d i j s l = by_test (nat_lt j c.n) refl
  where
    by_test : (b : Bool) → nat_lt j c.n ≡ b
        → cond b (root_ends (critical_pressure c i * critical_pressure c j) 1 32) no_ends ≡ cond (nat_lt j d.n) (root_ends (critical_pressure d i * critical_pressure d j) 1 32) no_ends
    by_test true e =
        let inside : j < c.n = ltb-true j c.n e in
        rw (← s.count, e, s.pc i (omega (arith, l, inside)), s.pc j inside) refl
    by_test false e = rw (← s.count, e) refl

pub enclosures-same : (c d : Case) → AreCasesSame c d → enclosures_of c ≡ enclosures_of d
unfolding enclosures_of
enclosures-same c d s =
    rw (
      list_below-same c.n (λ i. root_ends c.t (critical_temperature c i) 48) (λ i. root_ends d.t (critical_temperature d i) 48) (λ i l. rw (s.temperature, s.tc i l) refl),
      pressure_root-same c d 0 1 s (omega arith),
      pressure_root-same c d 0 2 s (omega arith),
      pressure_root-same c d 0 3 s (omega arith),
      pressure_root-same c d 1 2 s (omega arith),
      pressure_root-same c d 1 3 s (omega arith),
      pressure_root-same c d 2 3 s (omega arith),
      s.count,
    ) refl

-- ---- the numbers
pressure_root_of-same : (c d : Case) (qs : List Ends) (i j : ℕ) → AreCasesSame c d → i < c.n → pressure_root_of c qs i j ≡ pressure_root_of d qs i j
pressure_root_of-same c d qs i j s l = rw (s.pc i l) refl

cohesion-same : (c d : Case) (i j : ℕ) → AreCasesSame c d → i < c.n → j < c.n → cohesion_num c i j ≡ cohesion_num d i j
cohesion-same c d i j s l m = rw (s.pressure, s.tc i l, s.tc j m, s.k i j l m) refl

cohesion_den-same : (c d : Case) → AreCasesSame c d → cohesion_den c ≡ cohesion_den d
cohesion_den-same c d s = rw s.temperature refl

bare-same : (c d : Case) (lift : ℕ) (qs : List Ends) (i j : ℕ) → AreCasesSame c d → i < c.n → j < c.n →
    bare_attraction_ends c lift (pressure_root_of c qs i j) i j ≡ bare_attraction_ends d lift (pressure_root_of d qs i j) i j
bare-same c d lift qs i j s l m = rw (pressure_root_of-same c d qs i j s l, cohesion-same c d i j s l m, cohesion_den-same c d s) refl

table-same : (n : ℕ) (f g : ℕ → ℕ → Ends) → ((i j : ℕ) → i < n → j < n → f i j ≡ g i j) → table_below n f ≡ table_below n g
table-same n f g h =
    list_below-same n (λ i. list_below n (λ j. f i j)) (λ i. list_below n (λ j. g i j))
    (λ i l. list_below-same n (λ j. f i j) (λ j. g i j) (λ j m. h i j l m))

with-same : (c d : Case) (lift : ℕ) (e : Enclosures) → AreCasesSame c d → numbers_with c lift e ≡ numbers_with d lift e
with-same c d lift e s =
    rw (
      list_below-same c.n (λ i. alpha_root_ends c (ends_at e.temperature_roots i) i) (λ i. alpha_root_ends d (ends_at e.temperature_roots i) i)
          (λ i l. alpha_root-same c d (ends_at e.temperature_roots i) i s l),
      list_below-same c.n (λ i. covolume_ends c lift i) (λ i. covolume_ends d lift i) (λ i l. covolume_ends-same c d lift i s l),
      table-same c.n (λ i j. bare_attraction_ends c lift (pressure_root_of c e.pressure_roots i j) i j) (λ i j. bare_attraction_ends d lift (pressure_root_of d e.pressure_roots i j) i j)
          (λ i j l m. bare-same c d lift e.pressure_roots i j s l m),
      s.count,
    ) refl

pub numbers-same : (c d : Case) → AreCasesSame c d → numbers_of c ≡ numbers_of d
unfolding numbers_of
numbers-same c d s =
    subst (λ (l : ℕ). numbers_with c (lift_up_to c 29) (enclosures_of c) ≡ numbers_with d l (enclosures_of d)) (lift-same c d 29 s)
    (subst (λ (e : Enclosures). numbers_with c (lift_up_to c 29) (enclosures_of c) ≡ numbers_with d (lift_up_to c 29) e) (enclosures-same c d s)
    (with-same c d (lift_up_to c 29) (enclosures_of c) s))

-- ---- the ranges
near-same : (c d : Case) (i j : ℕ) → AreCasesSame c d → i < c.n → j < c.n → is_near c i j ≡ is_near d i j
near-same c d i j s l m = rw (s.tc i l, s.tc j m, s.pc i l, s.pc j m) refl

in_range-same : (c d : Case) → AreCasesSame c d → covolumes_in_range c ≡ covolumes_in_range d
in_range-same c d s =
    rw (
      all_below-same c.n (fits_lifted c 0) (fits_lifted d 0) (λ i l. fits-same c d 0 i s l),
      all_below-same c.n (is_tiny c) (is_tiny d) (λ i l. tiny-same c d i s l),
      s.count,
    ) refl

are_near-same : (c d : Case) → AreCasesSame c d → covolumes_are_near c ≡ covolumes_are_near d
are_near-same c d s =
    rw (
      all_below-same c.n (λ i. all_below c.n (is_near c i)) (λ i. all_below c.n (is_near d i))
          (λ i l. all_below-same c.n (is_near c i) (is_near d i) (λ j m. near-same c d i j s l m)),
      s.count,
    ) refl

pub fault-same : (c d : Case) → AreCasesSame c d → fault_of c ≡ fault_of d
unfolding fault_of
fault-same c d s = rw (in_range-same c d s, are_near-same c d s, numbers-same c d s, s.count) refl
