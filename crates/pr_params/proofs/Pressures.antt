-- The roots of the products of two critical pressures: where they stand, and how large they are.
use Rattle.std.proofs.Common.{◌≡◌, ℕ, ◌+◌, ◌*◌, ◌/◌, ◌^◌, ◌<◌, ◌≤◌, List, [], ◌∷◌, get_or, length, refl, sym, ap, ◌∙◌, arith, inl, inr, pos, ◌≤ℤ◌, lit<}
use Rattle.std.proofs.Math.Nat.{mul-le-mul, div-lt_iff_lt-mul}
use Rattle.std.proofs.lemmas.Bool.{cases_lt}
use Rattle.std.proofs.lemmas.Int.{ints}
use Rattle.std.proofs.lemmas.List.{get_or-map}
use Rattle.log_laws.specs.Between.{Ends}
use Rattle.log_laws.specs.Roots.{root_ends, root_floor, ceiling_from}
use Rattle.root_enclose.proofs.Exports.{floor_root_is, IsFloorRootOver, floor_root_over, ceiling_fits}
use Rattle.case_types.specs.declared.cases.Case.{Case}
use Rattle.case_types.specs.Energy.Components.{critical_pressure}
use Rattle.case_types.specs.Energy.Instances.{pair_place}
use Rattle.case_types.specs.Arithmetic.Numbers.{pressure_root_ends, enclosures_of}
use Rattle.case_types.specs.Arithmetic.Tables.{ends_at, no_ends}
use Rattle.log_laws.specs.declared.iv.Iv.{Iv}
use Rattle.log_laws.specs.Interval.{ends_of}
use Rattle.pr_params.specs.Entries.{pressure_entry, ends_of_all}
use Rattle.pr_params.proofs.Components.{component_at}
use Rattle.pr_params.proofs.Faulted.{lt_yes, lt_no}
use Rattle.pr_params.proofs.Right.{pair_at, live}

-- ---- the entry of a pair
abbrev pub own_root : Case → ℕ → Ends
own_root c i = let own = pos (critical_pressure c i * 2 ^ 32) in record { lo = own; hi = own }

pub pressure_before : (c : Case) (i j : ℕ) → i < j → j < c.n → pressure_entry c i j ≡ pressure_root_ends c i j
unfolding pressure_entry
pressure_before c i j h g = let few = c.few in rw (lt_yes i j h) (pair_at c i j h (omega (arith, few, g)))

pub pressure_after : (c : Case) (i j : ℕ) → j < i → i < c.n → pressure_entry c i j ≡ pressure_root_ends c j i
unfolding pressure_entry
pressure_after c i j h g = let few = c.few in rw (lt_no i j (omega (arith, h)), lt_yes j i h) (pair_at c j i h (omega (arith, few, g)))

pub pressure_own : (c : Case) (i : ℕ) → pressure_entry c i i ≡ own_root c i
unfolding pressure_entry
pressure_own c i = let no = lt_no i i (omega arith) in rw no refl

pub pressure_turned : (c : Case) (i j : ℕ) → i < c.n → j < c.n → pressure_entry c i j ≡ pressure_entry c j i
pressure_turned c i j h g =
    elim (cases_lt i j) [
      | inl less ↦ pressure_before c i j less g ∙ sym (pressure_after c j i less g)
      | inr more ↦ elim (cases_lt j i) [
        | inl less ↦ pressure_after c i j less h ∙ sym (pressure_before c j i less h)
        | inr same ↦ let e : i ≡ j = omega (arith, more, same) in rw e refl
      ]
    ]

-- ---- how large they are
-- at least m in 2^-32, and at most the greatest critical pressure
pub record IsPressureRoot (v : Ends) (m : ℕ) : Type 0 where
  pub low : pos (m * 2 ^ 32) ≤ℤ v.lo
  pub high : v.hi ≤ℤ pos (50000000 * 2 ^ 32)

floor_high : (r m n : ℕ) → m * m * 4 ^ 32 ≤ n → n < (r + 1) * (r + 1) * 1 → m * 2 ^ 32 ≤ r
floor_high r m n h k =
    elim (cases_lt r (m * 2 ^ 32)) [
      | inl less ↦
          let step : r + 1 ≤ m * 2 ^ 32 = omega (arith, less) in
          let square = mul-le-mul step step in absurd (omega (arith, square, h, k))
      | inr more ↦ more
    ]

root_sizes : (a b m : ℕ) → m ≤ a → m ≤ b → a ≤ 50000000 → b ≤ 50000000 → IsPressureRoot (root_ends (a * b) 1 32) m
root_sizes a b m al bl ah bh =
    let n = a * b * 4 ^ 32 in
    let r = root_floor (a * b) 1 32 in
    let low = mul-le-mul al bl in
    let high = mul-le-mul ah bh in
    let small : n / 1 < 2 ^ 128 = (div-lt_iff_lt-mul (lit< tt)).1 (omega (arith, high)) in
    let floor : IsFloorRootOver r n 1 = floor_root_over r n 1 (lit< tt) (floor_root_is (n / 1) small) in
    let least : m * 2 ^ 32 ≤ r = floor_high r m n (omega (arith, low)) floor.next in
    let most : ceiling_from r n 1 ≤ 50000000 * 2 ^ 32 = ceiling_fits r n 1 (50000000 * 2 ^ 32) (lit< tt) floor (omega (arith, high)) in
    record { low = omega (arith, ints, least); high = omega (arith, ints, most) }

pub pressure_sizes : (c : Case) (i j m : ℕ) → i < c.n → j < c.n → m ≤ critical_pressure c i → m ≤ critical_pressure c j → IsPressureRoot (pressure_entry c i j) m
pressure_sizes c i j m h g ml nl =
    let a = component_at c i h in
    let b = component_at c j g in
    elim (cases_lt i j) [
      | inl less ↦
          rw (pressure_before c i j less g, live j c.n (root_ends (critical_pressure c i * critical_pressure c j) 1 32) g)
          (root_sizes (critical_pressure c i) (critical_pressure c j) m ml nl a.pc_high b.pc_high)
      | inr more ↦ elim (cases_lt j i) [
        | inl less ↦
            rw (pressure_after c i j less h, live i c.n (root_ends (critical_pressure c j * critical_pressure c i) 1 32) h)
            (root_sizes (critical_pressure c j) (critical_pressure c i) m nl ml b.pc_high a.pc_high)
        | inr same ↦
            let e : j ≡ i = omega (arith, more, same) in
            rw (e, pressure_own c i) (record { low = omega (arith, ints, ml); high = omega (arith, ints, a.pc_high) })
      ]
    ]

-- it is above 0
pub root_positive : (c : Case) (i j : ℕ) → i < c.n → j < c.n → IsPressureRoot (pressure_entry c i j) 1
root_positive c i j h g =
    let a = component_at c i h in
    let b = component_at c j g in
    pressure_sizes c i j 1 h g (omega (arith, a.pc_low)) (omega (arith, b.pc_low))

-- ---- what is read at the place of a pair
pub root_read : (c : Case) (qs : List Iv) (d : Iv) (place i j : ℕ) → ends_of_all qs ≡ (enclosures_of c).pressure_roots → place < length qs →
    place ≡ pair_place i j → i < j → j < c.n → ends_of (get_or qs place d) ≡ pressure_root_ends c i j
root_read c qs d place i j e l is h g =
    let few = c.few in
    sym (get_or-map ends_of qs place d no_ends l)
    ∙ ap (λ (vs : List Ends). get_or vs place no_ends) e
    ∙ ap (λ k. ends_at (enclosures_of c).pressure_roots k) is
    ∙ pair_at c i j h (omega (arith, few, g))

-- ---- all six of them
pub six_roots : (c : Case) → (enclosures_of c).pressure_roots
    ≡ pressure_root_ends c 0 1 ∷ pressure_root_ends c 0 2 ∷ pressure_root_ends c 0 3 ∷ pressure_root_ends c 1 2 ∷ pressure_root_ends c 1 3 ∷ pressure_root_ends c 2 3 ∷ []
unfolding enclosures_of
six_roots c = refl
