-- The ends of an attraction are in order, and at most the co-volume of its first component; the greatest ratio of the two.
use Rattle.std.proofs.Common.{◌≡◌, ℕ, zero, suc, ◌+◌, ◌*◌, ◌^◌, ◌<◌, ◌≤◌, inl, inr, sym, subst, arith, ℤ, pos, negsuc, ◌*ℤ◌, ◌≤ℤ◌, ◌<ℤ◌, None, lit<}
use Rattle.std.proofs.lemmas.Bool.{cases_lt, lt-ltb, le-ltb}
use Rattle.std.proofs.lemmas.Int.{ints, clamps}
use Rattle.std.proofs.lemmas.Nat.{pow_pos}
use Rattle.std.proofs.Math.Nat.{mul-le-mul, mul-le-mul_right}
use Rattle.log_laws.specs.Between.{Ends, IsBetween}
use Rattle.log_laws.specs.Fraction.{Fraction, product_of}
use Rattle.log_laws.proofs.Exports.{mul-le_ℤ}
use Rattle.log_laws.specs.Sums.{greatest_below}
use Rattle.log_laws.specs.Whole.{ceil_div}
use Rattle.case_types.specs.declared.cases.Case.{Case}
use Rattle.case_types.specs.Energy.Components.{critical_pressure}
use Rattle.case_types.specs.Arithmetic.Faults.{fault_of}
use Rattle.case_types.specs.Energy.Instances.{HoldsRoot, Instance, pair_place}
use Rattle.case_types.specs.Arithmetic.Numbers.{numbers_of, lift_of, enclosures_of, pressure_root_of, attraction_ends}
use Rattle.case_types.specs.Energy.Parameters.{bare_attraction}
use Rattle.case_types.specs.Arithmetic.Tables.{ends_at, ends_of_pair}
use Rattle.pr_params.proofs.Accepted.{ratio_sizes, bare_positive}
use Rattle.pr_params.proofs.AcceptedSizes.{covolume_least, attraction_high_least, alpha_ordered, usable}
use Rattle.pr_params.proofs.AtComponents.{attraction_at, bare_attraction_at, alpha_root_at}
use Rattle.pr_params.proofs.Attracted.{attraction_within}
use Rattle.pr_params.proofs.Components.{component_at}
use Rattle.pr_params.proofs.Entries.{attraction_is, covolume_is}
use Rattle.pr_params.proofs.EntryFaults.{attraction_below}
use Rattle.pr_params.proofs.ParametersHold.{bare_attraction_within, alpha_large}
use Rattle.pr_params.proofs.Right.{enclosures_right}
use Rattle.pr_params.proofs.Sized.{ends_ordered}

-- ---- at most the co-volume
pub attraction_most : (c : Case) (i j : ℕ) → fault_of c ≡ None → i < c.n → j < c.n
    → (ends_of_pair (numbers_of c).attractions i j).hi ≤ℤ (ends_at (numbers_of c).covolumes i).lo
attraction_most c i j e h g = rw (attraction_is c i j h g, covolume_is c i h) (attraction_below c i j h g e)

-- ---- ends in order
-- of a root
root_order : (v : Ends) (num den scale : ℕ) → 0 < den → HoldsRoot v num den scale → v.lo ≤ℤ v.hi
root_order v num den scale some h = made v.lo v.hi h.positive h.positive_above h.above h.below
  where
    squares : (a b : ℕ) → a * a * den ≤ num * 4 ^ scale → num * 4 ^ scale ≤ b * b * den → a ≤ b
    squares a b h k =
        elim (cases_lt b a) [
          | inl less ↦
              let step : b + 1 ≤ a = omega (arith, less) in
              let square = mul-le-mul_right den (mul-le-mul step step) in
              absurd (omega (arith, square, h, k, some))
          | inr more ↦ more
        ]

    made : (a b : ℤ) → pos 0 <ℤ a → pos 0 <ℤ b → (a *ℤ a *ℤ pos den) ≤ℤ pos (num * 4 ^ scale) → pos (num * 4 ^ scale) ≤ℤ (b *ℤ b *ℤ pos den) → a ≤ℤ b
    made (pos a) (pos b) pa pb h k = let q = squares a b (omega (arith, ints, h)) (omega (arith, ints, k)) in omega (arith, ints, q)
    made (pos a) (negsuc b) pa pb h k = absurd (omega (arith, ints, pb))
    made (negsuc a) b pa pb h k = absurd (omega (arith, ints, pa))

-- of the root of two critical pressures, which is positive
record IsOrdered (v : Ends) : Type 0 where
  positive : pos 0 <ℤ v.lo
  order : v.lo ≤ℤ v.hi

pressure_order : (c : Case) (i j : ℕ) → i < c.n → j < c.n → IsOrdered (pressure_root_of c (enclosures_of c).pressure_roots i j)
pressure_order c i j h g =
    elim (cases_lt i j) [
      | inl less ↦ rw (lt-ltb i j less) (of_pair i j less g)
      | inr more ↦ elim (cases_lt j i) [
        | inl less ↦ rw (le-ltb i j more, lt-ltb j i less) (of_pair j i less h)
        | inr same ↦
            let own = component_at c i h in
            let some = own.pc_low in
            rw (le-ltb i j more, le-ltb j i same) (record { positive = omega (arith, ints, some); order = omega (arith, ints) })
      ]
    ]
  where
    of_pair : (i j : ℕ) → i < j → j < c.n → IsOrdered (ends_at (enclosures_of c).pressure_roots (pair_place i j))
    of_pair i j h g =
        let r = (enclosures_right c).pressure_roots i j h g in
        record { positive = r.positive; order = root_order _ (critical_pressure c i * critical_pressure c j) 1 32 (lit< tt) r }

-- the lower end lies between the ends
low_between : (v : Ends) (scale : ℕ) → 0 < scale → v.lo ≤ℤ v.hi → IsBetween v scale (record { num = v.lo; den = scale })
low_between v scale some order = record { is_fraction = some; above = omega (arith, ints); below = mul-le_ℤ v.lo v.hi scale order }

bare_order : (c : Case) (i j : ℕ) → i < c.n → j < c.n → (ends_of_pair (numbers_of c).bare_attractions i j).lo ≤ℤ (ends_of_pair (numbers_of c).bare_attractions i j).hi
bare_order c i j h g =
    let q = pressure_root_of c (enclosures_of c).pressure_roots i j in
    let o = pressure_order c i j h g in
    let t : Fraction = record { num = q.lo; den = 2 ^ 32 } in
    let x : Instance = record { root_two = t; log_e = t; temperature_root = λ k. t; pressure_root = λ k l. t } in
    let between = bare_attraction_within c x (lift_of c) q i j h g (record { positive = o.positive; between = low_between q (2 ^ 32) (lit< tt) o.order }) in
    rw (bare_attraction_at c i j h g) (ends_ordered _ (2 ^ (47 + lift_of c)) (bare_attraction c x i j) between)

pub attraction_in_order : (c : Case) (i j : ℕ) → fault_of c ≡ None → i < c.n → j < c.n
    → (ends_of_pair (numbers_of c).attractions i j).lo ≤ℤ (ends_of_pair (numbers_of c).attractions i j).hi
attraction_in_order c i j e h g =
    let p = numbers_of c in
    let v = ends_of_pair p.bare_attractions i j in
    let m = ends_at p.alpha_roots i in
    let n = ends_at p.alpha_roots j in
    let s = 2 ^ (47 + p.lift) in
    let first = alpha_large c i h e in
    let second = alpha_large c j g e in
    let bare : pos 0 ≤ℤ v.lo = rw (bare_attraction_at c i j h g) (bare_positive c (lift_of c) (pressure_root_of c (enclosures_of c).pressure_roots i j) i j h g) in
    let m_order : m.lo ≤ℤ m.hi = rw (alpha_root_at c i h) (alpha_ordered c (ends_at (enclosures_of c).temperature_roots i) i) in
    let n_order : n.lo ≤ℤ n.hi = rw (alpha_root_at c j g) (alpha_ordered c (ends_at (enclosures_of c).temperature_roots j) j) in
    let f : Fraction = record { num = v.lo; den = s } in
    let k : Fraction = record { num = m.lo; den = 2 ^ 48 } in
    let l : Fraction = record { num = n.lo; den = 2 ^ 48 } in
    let within = attraction_within v m n p.lift f k l bare (omega (arith, ints, first)) (omega (arith, ints, second)) (pow_pos (47 + p.lift))
    (low_between v s (pow_pos (47 + p.lift)) (bare_order c i j h g)) (low_between m (2 ^ 48) (lit< tt) m_order) (low_between n (2 ^ 48) (lit< tt) n_order) in
    rw (attraction_at c i j h g) (ends_ordered (attraction_ends v m n) (2 ^ (49 + p.lift)) (product_of (product_of f k) l) within)

-- ---- the greatest ratio
pub greatest-le : (n : ℕ) (f : ℕ → ℤ) (first w : ℤ) → first ≤ℤ w → ((i : ℕ) → i < n → f i ≤ℤ w) → greatest_below n f first ≤ℤ w
unfolding greatest_below
greatest-le zero f first w h k = h
greatest-le (suc n) f first w h k =
    let e = greatest-le n f first w h (λ i l. k i (omega (arith, l))) in
    let here = k n (omega arith) in
    omega (arith, ints, clamps, e, here)

pub rho_most : (c : Case) → fault_of c ≡ None → (numbers_of c).rho ≤ℤ pos (2 ^ 47)
rho_most c e =
    let p = numbers_of c in
    let f : ℕ → ℕ → ℤ = λ i j. ceil_div ((ends_of_pair p.attractions i j).hi *ℤ pos (2 ^ 47)) (ends_at p.covolumes i).lo in
    let one : (i j : ℕ) → i < c.n → j < c.n → f i j ≤ℤ pos (2 ^ 47) =
    λ i j h g.
    (let low = covolume_least c i e h in
    let some = attraction_high_least c i j e h g in
    (ratio_sizes (ends_of_pair p.attractions i j).hi (ends_at p.covolumes i).lo some (attraction_most c i j e h g) (omega (arith, ints, low))).1) in
    subst (λ (z : ℤ). z ≤ℤ pos (2 ^ 47)) (sym (usable c e).rho)
    (greatest-le c.n (λ i. greatest_below c.n (f i) (pos 0)) (pos 0) (pos (2 ^ 47)) (omega (arith, ints))
    (λ i h. greatest-le c.n (f i) (pos 0) (pos (2 ^ 47)) (omega (arith, ints)) (λ j g. one i j h g)))
