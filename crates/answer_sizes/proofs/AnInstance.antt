-- There is a choice between the printed ends of a case: the lower ends.
use Rattle.std.proofs.Common.{◌≡◌, ℕ, ◌+◌, ◌*◌, ◌^◌, ◌<◌, ◌≤◌, ◌==◌, Bool, true, false, min, max, inl, inr, ℤ, pos, negsuc, ◌*ℤ◌, ◌≤ℤ◌, ◌<ℤ◌, refl, sym, arith, lit<}
use Rattle.std.specs.Prelude.{if◌then◌else◌}
use Rattle.std.proofs.Math.Nat.{mul-le-mul}
use Rattle.std.proofs.lemmas.Bool.{cases_lt, ne_eqb}
use Rattle.std.proofs.lemmas.Bool.Decides.{nat_tests}
use Rattle.std.proofs.lemmas.Int.{ints}
use Rattle.log_laws.specs.Between.{Ends, IsBetween}
use Rattle.log_laws.specs.Fraction.{Fraction, whole}
use Rattle.log_laws.proofs.Exports.{mul-le_ℤ}
use Rattle.case_types.specs.declared.cases.Case.{Case}
use Rattle.case_types.specs.Arithmetic.Numbers.{numbers_of, enclosures_of}
use Rattle.case_types.specs.Arithmetic.Tables.{ends_at}
use Rattle.case_types.specs.Energy.Components.{critical_temperature, critical_pressure}
use Rattle.case_types.specs.Energy.Instances.{Instance, IsInstance, HoldsRoot, pair_place}
use Rattle.pr_params.proofs.Exports.{component_at, enclosures_right, e_lo_is, e_hi_is}

-- ---- the lower end lies between the ends
abbrev lower : Ends → ℕ → Fraction
lower v scale = record { num = v.lo; den = scale }

lower_between : (v : Ends) (scale : ℕ) → 0 < scale → v.lo ≤ℤ v.hi → IsBetween v scale (lower v scale)
lower_between v scale some order = record { is_fraction = some; above = mul-le_ℤ v.lo v.lo scale (itself v.lo); below = mul-le_ℤ v.lo v.hi scale order }
  where
    itself : (z : ℤ) → z ≤ℤ z
    itself z = omega (arith, ints)

-- ---- the ends of a root are in order
squares : (a b d n : ℕ) → 0 < d → a * a * d ≤ n → n ≤ b * b * d → a ≤ b
squares a b d n some low high =
    elim (cases_lt b a) [
      | inl less ↦
          let more : (b * b + b + b + 1) * d ≤ a * a * d = scaled (next_square less) in
          absurd (omega (arith, more, low, high, some))
      | inr more ↦ more
    ]
  where
    next_square : b < a → b * b + b + b + 1 ≤ a * a
    next_square less = let m : (b + 1) * (b + 1) ≤ a * a = mul-le-mul (up_one less) (up_one less) in omega (arith, m)
      where
        up_one : b < a → b + 1 ≤ a
        up_one h = omega (arith, h)

    scaled : b * b + b + b + 1 ≤ a * a → (b * b + b + b + 1) * d ≤ a * a * d
    scaled h = mul-le-mul h (same d)
      where
        same : (x : ℕ) → x ≤ x
        same x = omega arith

root_ordered : (v : Ends) (num den scale : ℕ) → 0 < den → HoldsRoot v num den scale → v.lo ≤ℤ v.hi
root_ordered v num den scale some h = by_ends v.lo v.hi h.positive h.positive_above h.above h.below
  where
    by_ends : (a b : ℤ) → pos 0 <ℤ a → pos 0 <ℤ b → (a *ℤ a *ℤ pos den) ≤ℤ pos (num * 4 ^ scale) → pos (num * 4 ^ scale) ≤ℤ (b *ℤ b *ℤ pos den) → a ≤ℤ b
    by_ends (pos a) (pos b) p q low high =
        let l = squares a b den (num * 4 ^ scale) some (omega (arith, ints, low)) (omega (arith, ints, high)) in omega (arith, ints, l)
    by_ends (pos a) (negsuc b) p q low high = absurd (omega (arith, ints, q))
    by_ends (negsuc a) b p q low high = absurd (omega (arith, ints, p))

-- ---- the choice
abbrev pressure_choice : Case → ℕ → ℕ → Fraction
pressure_choice c i j =
    if i == j then whole (pos (critical_pressure c i)) else lower (ends_at (enclosures_of c).pressure_roots (pair_place (min i j) (max i j))) (2 ^ 32)

abbrev pub an_instance : Case → Instance
an_instance c = record {
  root_two = lower (enclosures_of c).root_two (2 ^ 60);
  log_e = lower (enclosures_of c).log_e (2 ^ 40);
  temperature_root = λ i. lower (ends_at (enclosures_of c).temperature_roots i) (2 ^ 48);
  pressure_root = pressure_choice c;
}

e_ordered : (c : Case) → (enclosures_of c).log_e.lo ≤ℤ (enclosures_of c).log_e.hi
unfolding numbers_of
e_ordered c =
    let low : (enclosures_of c).log_e.lo ≡ pos 1586259924992 = sym (e_lo_is c) in
    let high : (enclosures_of c).log_e.hi ≡ pos 1586260020565 = sym (e_hi_is c) in
    rw (low, high) (omega (arith, ints))

own_number : (a : ℕ) → (a == a) ≡ true
own_number a = grind (arith, nat_tests)

pressure_between : (c : Case) (i j : ℕ) → i < j → j < c.n → IsBetween (ends_at (enclosures_of c).pressure_roots (pair_place i j)) (2 ^ 32) (pressure_choice c i j)
pressure_between c i j h k =
    let apart : (i == j) ≡ false = ne_eqb i j (λ e. absurd (omega (arith, h, e))) in
    let low : min i j ≡ i = omega (arith, h) in
    let high : max i j ≡ j = omega (arith, h) in
    rw (apart, low, high) (lower_between (ends_at (enclosures_of c).pressure_roots (pair_place i j)) (2 ^ 32) (lit< tt)
    (root_ordered (ends_at (enclosures_of c).pressure_roots (pair_place i j)) (critical_pressure c i * critical_pressure c j) 1 32 (lit< tt) ((enclosures_right c).pressure_roots i j h k)))

pressure_turned : (c : Case) (i j : ℕ) (b : Bool) → (i == j) ≡ b → pressure_choice c i j ≡ pressure_choice c j i
pressure_turned c i j true e = let same : i ≡ j = grind (arith, nat_tests) in rw same refl
pressure_turned c i j false e =
    let f : (j == i) ≡ false = ne_eqb j i (λ s. absurd (clash s)) in
    let low : min j i ≡ min i j = omega arith in
    let high : max j i ≡ max i j = omega arith in
    rw (e, f, low, high) refl
  where
    clash : j ≡ i → ⊥
    clash s = let yes : (i == j) ≡ true = rw s (own_number i) in absurd (cc (yes, e))

pub is_instance : (c : Case) → IsInstance c (enclosures_of c) (an_instance c)
is_instance c =
    let right = enclosures_right c in
    let e = enclosures_of c in
    record {
      root_two = lower_between e.root_two (2 ^ 60) (lit< tt) (root_ordered e.root_two 2 1 60 (lit< tt) right.root_two);
      log_e = lower_between e.log_e (2 ^ 40) (lit< tt) (e_ordered c);
      temperature_root = λ i h. lower_between (ends_at e.temperature_roots i) (2 ^ 48) (lit< tt)
          (root_ordered (ends_at e.temperature_roots i) c.t (critical_temperature c i) 48 (let k = (component_at c i h).tc_low in omega (arith, k)) (right.temperature_roots i h));
      pressure_root = λ i j h k. pressure_between c i j h k;
      own_pressure = λ i h. own i;
      either_way = λ i j. pressure_turned c i j (i == j) refl;
    }
  where
    own : (i : ℕ) → pressure_choice c i i ≡ whole (pos (critical_pressure c i))
    own i = rw (own_number i) refl
