-- What tests over the numbers below n say of each of them.
use Rattle.std.proofs.Common.{◌≡◌, ℕ, ◌<◌, ◌≤◌, List, Bool, true, IsTrue, refl, slice_index}
use Rattle.std.specs.Prelude.{nat_le}
use Rattle.std.proofs.lemmas.Bool.{le-leb, leb-true}
use Rattle.log_laws.proofs.Exports.{all_below-at}
use Rattle.log_laws.specs.Sums.{all_below}
use Rattle.case_types.specs.Ranges.{is_each_at_most, is_each_up_to}

pub at_most_at : (n : ℕ) (xs ys : List ℕ) (i : ℕ) → i < n → IsTrue (is_each_at_most n xs ys) → slice_index xs i ≤ slice_index ys i
at_most_at n xs ys i h t =
    leb-true (slice_index xs i) (slice_index ys i) (all_below-at n (λ i. nat_le (slice_index xs i) (slice_index ys i)) i h t)

pub up_to_at : (n : ℕ) (xs : List ℕ) (limit i : ℕ) → i < n → IsTrue (is_each_up_to n xs limit) → slice_index xs i ≤ limit
up_to_at n xs limit i h t = leb-true (slice_index xs i) limit (all_below-at n (λ i. nat_le (slice_index xs i) limit) i h t)

all_four : (p : ℕ → Bool) → p 0 ≡ true → p 1 ≡ true → p 2 ≡ true → p 3 ≡ true → all_below 4 p ≡ true
all_four p a b c d = rw (a, b, c, d) refl

pub four_at_most : (xs ys : List ℕ) → slice_index xs 0 ≤ slice_index ys 0 → slice_index xs 1 ≤ slice_index ys 1 →
    slice_index xs 2 ≤ slice_index ys 2 → slice_index xs 3 ≤ slice_index ys 3 → IsTrue (is_each_at_most 4 xs ys)
four_at_most xs ys a b c d =
    all_four (λ i. nat_le (slice_index xs i) (slice_index ys i)) (le-leb _ _ a) (le-leb _ _ b) (le-leb _ _ c) (le-leb _ _ d)

pub four_up_to : (xs : List ℕ) (limit : ℕ) → slice_index xs 0 ≤ limit → slice_index xs 1 ≤ limit → slice_index xs 2 ≤ limit →
    slice_index xs 3 ≤ limit → IsTrue (is_each_up_to 4 xs limit)
four_up_to xs limit a b c d = all_four (λ i. nat_le (slice_index xs i) limit) (le-leb _ _ a) (le-leb _ _ b) (le-leb _ _ c) (le-leb _ _ d)
