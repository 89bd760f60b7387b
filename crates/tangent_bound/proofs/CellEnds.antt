-- The ends of a cell lie in the domain.
use Rattle.std.proofs.Common.{◌≡◌, ℕ, zero, suc, ◌≤◌, ◌^◌, List, [], ◌∷◌, length, IsTrue, slice_index, refl, arith, inl, inr}
use Rattle.std.specs.Prelude.{nat_le}
use Rattle.std.proofs.lemmas.Bool.{cases_lt, leb-true}
use Rattle.log_laws.proofs.Exports.{all_below-at}
use Rattle.case_types.specs.Ranges.{is_each_at_most, is_each_up_to}

past : (xs : List ℕ) (i : ℕ) → length xs ≤ i → slice_index xs i ≡ 0
past [] i l = refl
past (x ∷ xs) zero l = absurd (omega (arith, l))
past (x ∷ xs) (suc i) l = past xs i (omega (arith, l))

pub high_inside : (hi : List ℕ) → length hi ≤ 3 → IsTrue (is_each_up_to 3 hi (2 ^ 20)) → (i : ℕ) → slice_index hi i ≤ 2 ^ 20
high_inside hi three h i = elim (cases_lt i 3) [
  | inl l ↦ leb-true (slice_index hi i) (2 ^ 20) (all_below-at 3 (λ i. nat_le (slice_index hi i) (2 ^ 20)) i l h)
  | inr l ↦ rw (past hi i (omega (arith, three, l))) (omega arith)
]

pub low_inside : (lo hi : List ℕ) → length lo ≤ 3 → length hi ≤ 3 → IsTrue (is_each_at_most 3 lo hi) → IsTrue (is_each_up_to 3 hi (2 ^ 20)) → (i : ℕ) → slice_index lo i ≤ 2 ^ 20
low_inside lo hi three high o h i = elim (cases_lt i 3) [
  | inl l ↦ let k = leb-true (slice_index lo i) (slice_index hi i) (all_below-at 3 (λ i. nat_le (slice_index lo i) (slice_index hi i)) i l o) in
      let m = high_inside hi high h i in omega (arith, k, m)
  | inr l ↦ rw (past lo i (omega (arith, three, l))) (omega arith)
]
