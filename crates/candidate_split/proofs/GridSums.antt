-- Fractions on the grid add up to 1.
use Rattle.std.proofs.Common.{◌≡◌, ℕ, zero, suc, ◌+◌, ◌*◌, ◌^◌, ◌<◌, ◌≤◌, List, length, slice_index, slice_set, inl, inr, refl, get_or-set_same, get_or-set_other, arith}
use Rattle.std.proofs.Math.Nat.{div-mul-le_self, le_of_mul-le-mul_right}
use Rattle.std.proofs.lemmas.Bool.{cases_lt, lt-ltb, le-ltb}
use Rattle.log_laws.specs.Sums.{sum_below, list_below}
use Rattle.log_laws.proofs.Exports.{sum_below-scaled}
use Rattle.candidate_split.specs.Grid.{floor_fraction, floor_fractions, first_greatest, completed, missing}
use Rattle.candidate_split.proofs.Greatest.{greatest_inside}

-- ---- a sum with one entry changed
sum_same : (n : ℕ) (xs : List ℕ) (k x : ℕ) → n ≤ k → sum_below n (slice_index (slice_set xs k x)) ≡ sum_below n (slice_index xs)
sum_same zero xs k x h = refl
sum_same (suc n) xs k x h =
    let before = sum_same n xs k x (omega (arith, h)) in
    let other : slice_index (slice_set xs k x) n ≡ slice_index xs n = get_or-set_other xs k n x 0 (omega (arith, h)) in
    omega (arith, before, other)

pub sum_raised : (n : ℕ) (xs : List ℕ) (k m : ℕ) → k < n → k < length xs →
    sum_below n (slice_index (slice_set xs k (slice_index xs k + m))) ≡ sum_below n (slice_index xs) + m
sum_raised zero xs k m h l = absurd (omega (arith, h))
sum_raised (suc n) xs k m h l =
    elim (cases_lt k n) [
      | inl before ↦
          let rest = sum_raised n xs k m before l in
          let other : slice_index (slice_set xs k (slice_index xs k + m)) n ≡ slice_index xs n = get_or-set_other xs k n (slice_index xs k + m) 0 (omega (arith, before)) in
          omega (arith, rest, other)
      | inr last ↦
          let e : n ≡ k = omega (arith, h, last) in
          rw e (
          let rest = sum_same k xs k (slice_index xs k + m) (omega arith) in
          let here : slice_index (slice_set xs k (slice_index xs k + m)) k ≡ slice_index xs k + m = get_or-set_same xs k (slice_index xs k + m) 0 l in
          omega (arith, rest, here)
          )
    ]

-- ---- fractions rounded down
pub floor_at : (n : ℕ) (parts : List ℕ) (i : ℕ) → i < 4 → slice_index (floor_fractions n parts) i ≡ floor_fraction n parts i
unfolding floor_fractions list_below
floor_at n parts zero h = refl
floor_at n parts (suc zero) h = refl
floor_at n parts (suc (suc zero)) h = refl
floor_at n parts (suc (suc (suc zero))) h = refl
floor_at n parts (suc (suc (suc (suc i)))) h = absurd (omega (arith, h))

pub floors_long : (n : ℕ) (parts : List ℕ) → length (floor_fractions n parts) ≡ 4
unfolding floor_fractions list_below
floors_long n parts = refl

pub floors_past : (n : ℕ) (parts : List ℕ) (i : ℕ) → n ≤ i → slice_index (floor_fractions n parts) i ≡ 0
unfolding floor_fractions list_below
floors_past n parts zero h = rw (le-ltb 0 n h) refl
floors_past n parts (suc zero) h = rw (le-ltb 1 n h) refl
floors_past n parts (suc (suc zero)) h = rw (le-ltb 2 n h) refl
floors_past n parts (suc (suc (suc zero))) h = rw (le-ltb 3 n h) refl
floors_past n parts (suc (suc (suc (suc i)))) h = refl

pub floors_fit : (n : ℕ) (parts : List ℕ) → n ≤ 4 → 1 ≤ sum_below n (slice_index parts) → sum_below n (slice_index (floor_fractions n parts)) ≤ 2 ^ 20
floors_fit n parts four some =
    let s = sum_below n (slice_index parts) in
    let each : (i : ℕ) → i < n → slice_index (floor_fractions n parts) i * s ≤ slice_index parts i * 2 ^ 20 =
    λ i h. rw (floor_at n parts i (omega (arith, h, four)), lt-ltb i n h) (div-mul-le_self (slice_index parts i * 2 ^ 20) s) in
    let all = sum_below-scaled n (slice_index (floor_fractions n parts)) (slice_index parts) s (2 ^ 20) each in
    le_of_mul-le-mul_right {n = 2 ^ 20} {k = s} (omega (arith, all)) (omega (arith, some))

-- ---- with what is missing
pub completed_sum : (n : ℕ) (xs : List ℕ) → 1 ≤ n → n ≤ length xs → sum_below n (slice_index xs) ≤ 2 ^ 20 → sum_below n (slice_index (completed n xs)) ≡ 2 ^ 20
completed_sum n xs one long fits =
    let inside = greatest_inside xs n one in
    let raised = sum_raised n xs (first_greatest n xs) (missing n xs) inside (omega (arith, inside, long)) in
    omega (arith, raised, fits)

pub completed_past : (n : ℕ) (xs : List ℕ) (i : ℕ) → 1 ≤ n → n ≤ i → slice_index (completed n xs) i ≡ slice_index xs i
completed_past n xs i one past =
    let inside = greatest_inside xs n one in
    get_or-set_other xs (first_greatest n xs) i (slice_index xs (first_greatest n xs) + missing n xs) 0 (omega (arith, inside, past))
