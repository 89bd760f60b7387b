-- The first of the greatest.
use Rattle.std.proofs.Common.{◌≡◌, ℕ, zero, suc, ◌<◌, ◌≤◌, List, slice_index, inl, inr, refl, arith}
use Rattle.std.proofs.lemmas.Bool.{cases_lt, lt-ltb, le-ltb}
use Rattle.candidate_split.specs.Grid.{first_greatest}

pub greatest_none : (xs : List ℕ) → 0 ≡ first_greatest 0 xs
unfolding first_greatest
greatest_none xs = refl

pub greatest_next : (xs : List ℕ) (i : ℕ) → slice_index xs (first_greatest i xs) < slice_index xs i → i ≡ first_greatest (suc i) xs
unfolding first_greatest
greatest_next xs i more = rw (lt-ltb (slice_index xs (first_greatest i xs)) (slice_index xs i) more) refl

pub greatest_stays : (xs : List ℕ) (i : ℕ) → slice_index xs i ≤ slice_index xs (first_greatest i xs) → first_greatest i xs ≡ first_greatest (suc i) xs
unfolding first_greatest
greatest_stays xs i less = rw (le-ltb (slice_index xs (first_greatest i xs)) (slice_index xs i) less) refl

-- it is one of them
greatest_within : (xs : List ℕ) (n : ℕ) → first_greatest (suc n) xs < suc n
greatest_within xs zero =
    elim (cases_lt (slice_index xs (first_greatest 0 xs)) (slice_index xs 0)) [
      | inl more ↦ rw (← greatest_next xs 0 more) (omega arith)
      | inr less ↦ rw (← greatest_stays xs 0 less, ← greatest_none xs) (omega arith)
    ]
greatest_within xs (suc n) =
    elim (cases_lt (slice_index xs (first_greatest (suc n) xs)) (slice_index xs (suc n))) [
      | inl more ↦ rw (← greatest_next xs (suc n) more) (omega arith)
      | inr less ↦ rw (← greatest_stays xs (suc n) less) (omega (arith, greatest_within xs n))
    ]

pub greatest_inside : (xs : List ℕ) (n : ℕ) → 1 ≤ n → first_greatest n xs < n
greatest_inside xs zero some = absurd (omega (arith, some))
greatest_inside xs (suc n) some = greatest_within xs n
