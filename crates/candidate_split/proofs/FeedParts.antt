-- The parts of a feed and of a vapour: how many there are.
use Rattle.std.proofs.Common.{◌≡◌, ℕ, ◌*◌, ◌/◌, ◌^◌, ◌<◌, ◌≤◌, Bool, true, false, List, slice_index, refl, inl, inr, arith}
use Rattle.std.specs.Prelude.{nat_le, nat_lt}
use Rattle.std.proofs.Math.Nat.{mul-le-mul, mul-le-mul_right, div-mul-le_self, le-div_iff_mul-le}
use Rattle.std.proofs.lemmas.Bool.{cases_lt, leb-true, lt-ltb, ltb-true}
use Rattle.log_laws.proofs.Exports.{all_below-at, le-sum_below}
use Rattle.case_types.specs.declared.cases.Case.{Case}
use Rattle.split_energies.specs.Feeds.{feed_part}
use Rattle.candidate_split.specs.TwoPhases.{IsComposition, vapour_part}

pub fraction_small : (n i : ℕ) (y : List ℕ) → IsComposition n y → slice_index y i ≤ 2 ^ 20
fraction_small n i y is =
    elim (cases_lt i n) [
      | inl less ↦ let part = le-sum_below n i (slice_index y) less in omega (arith, part, is.whole)
      | inr more ↦ let none = is.rest i more in omega (arith, none)
    ]

pub feed_small : (c : Case) (i : ℕ) → feed_part c i ≤ 2 ^ 20
feed_small c i = by_test (nat_lt i c.n) refl
  where
    by_test : (b : Bool) → nat_lt i c.n ≡ b → feed_part c i ≤ 2 ^ 20
    by_test true e = let part = le-sum_below c.n i (slice_index c.z) (ltb-true i c.n e) in rw e (omega (arith, part, c.added, c.total_high))
    by_test false e = rw e (omega arith)

pub vapour_small : (c : Case) (v i : ℕ) (y : List ℕ) → v ≤ 2 ^ 20 → IsComposition c.n y → vapour_part c v y i ≤ 2 ^ 60
vapour_small c v i y h is =
    let p : v * slice_index y i ≤ 2 ^ 20 * 2 ^ 20 = mul-le-mul h (fraction_small c.n i y is) in
    let q : v * slice_index y i * c.total ≤ (2 ^ 20 * 2 ^ 20) * 2 ^ 20 = mul-le-mul p c.total_high in
    omega (arith, q)

-- a lesser share takes no more
pub lesser_share_fits : (c : Case) (v w i : ℕ) (y : List ℕ) → v ≤ w → vapour_part c w y i ≤ feed_part c i * 2 ^ 40 → vapour_part c v y i ≤ feed_part c i * 2 ^ 40
lesser_share_fits c v w i y h fits =
    let p : v * slice_index y i ≤ w * slice_index y i = mul-le-mul_right (slice_index y i) h in
    let q : v * slice_index y i * c.total ≤ w * slice_index y i * c.total = mul-le-mul_right c.total p in
    omega (arith, q, fits)

-- each live component has a part for each unit of a grid fraction of it
pub enough : (c : Case) (i : ℕ) (y : List ℕ) → i < c.n → IsComposition c.n y → slice_index y i * c.total ≤ feed_part c i * 2 ^ 40
enough c i y h is =
    let live = leb-true 1 (slice_index c.z i) (all_below-at c.n (λ i. nat_le 1 (slice_index c.z i)) i h c.live) in
    let fed : feed_part c i ≡ slice_index c.z i = rw (lt-ltb i c.n h) refl in
    let full : slice_index y i * c.total ≤ 2 ^ 20 * 2 ^ 20 = mul-le-mul (fraction_small c.n i y is) c.total_high in
    omega (arith, live, fed, full)

-- a share that is at most a quotient takes no more than the whole
pub quotient_fits : (v y t a : ℕ) → 0 < y * t → v ≤ a / (y * t) → v * y * t ≤ a
quotient_fits v y t a some h =
    let p : v * (y * t) ≤ a / (y * t) * (y * t) = mul-le-mul_right (y * t) h in
    let q : a / (y * t) * (y * t) ≤ a = div-mul-le_self a (y * t) in
    let e : v * y * t ≡ v * (y * t) = omega arith in
    omega (arith, p, q, e)

pub quotient_some : (a b : ℕ) → 0 < b → b ≤ a → 1 ≤ a / b
quotient_some a b some h = (le-div_iff_mul-le some).1 (omega (arith, h))
