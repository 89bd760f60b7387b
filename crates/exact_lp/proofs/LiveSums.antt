-- Sums of four numbers of which those past n are nothing.
use Rattle.std.proofs.Common.{◌≡◌, ℕ, ◌<◌, ◌≤◌, ℤ, pos, refl, arith}
use Rattle.std.proofs.lemmas.Int.{ints}
use Rattle.log_laws.specs.Sums.{int_sum_below}
use Rattle.exact_lp.proofs.DeterminantRules.{by_count}

-- what is added past n is nothing
pub sum-cut : (n : ℕ) → 1 ≤ n → n ≤ 4 → (f g : ℕ → ℤ) → ((k : ℕ) → k < n → f k ≡ g k) → ((k : ℕ) → n ≤ k → k < 4 → f k ≡ pos 0) → int_sum_below 4 f ≡ int_sum_below n g
unfolding int_sum_below
sum-cut n h k f g =
    by_count (λ n. ((k : ℕ) → k < n → f k ≡ g k) → ((k : ℕ) → n ≤ k → k < 4 → f k ≡ pos 0) → int_sum_below 4 f ≡ int_sum_below n g)
    (λ e z. rw (e 0 (omega arith), z 1 (omega arith) (omega arith), z 2 (omega arith) (omega arith), z 3 (omega arith) (omega arith)) (omega (arith, ints)))
    (λ e z. rw (e 0 (omega arith), e 1 (omega arith), z 2 (omega arith) (omega arith), z 3 (omega arith) (omega arith)) (omega (arith, ints)))
    (λ e z. rw (e 0 (omega arith), e 1 (omega arith), e 2 (omega arith), z 3 (omega arith) (omega arith)) (omega (arith, ints)))
    (λ e z. rw (e 0 (omega arith), e 1 (omega arith), e 2 (omega arith), e 3 (omega arith)) refl)
    n h k
