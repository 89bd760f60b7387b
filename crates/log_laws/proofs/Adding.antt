-- Sums, least and greatest values, and tests of all numbers below one, as a loop makes them.
use Rattle.std.proofs.Common.{Bool, true, false, ◌&&◌, IsTrue, ◌≡◌, ℕ, zero, suc, ◌+◌, ◌^◌, ◌<◌, ◌≤◌, ℤ, pos, ◌+ℤ◌, ◌≤ℤ◌, unsigned_abs, refl, arith, add-one, to_z, of_z, inl, inr, nat_le, List, [], ◌∷◌, slice_index_or}
use Rattle.std.specs.Int.{w128, int_min, int_max}
use Rattle.std.proofs.lemmas.Bool.{cases_lt, leb-true, le-leb}
use Rattle.std.proofs.lemmas.Int.{ints, clamps}
use Rattle.log_laws.specs.Sums.{sum_below, int_sum_below, least_below, greatest_below, all_below}

-- ---- sums of natural numbers
pub sum_below-more : (n : ℕ) (f : ℕ → ℕ) → sum_below (n + 1) f ≡ sum_below n f + f n
sum_below-more n f = rw (add-one n) refl

-- fewer terms add up to no more
pub sum_below-fewer : (k n : ℕ) (f : ℕ → ℕ) → k ≤ n → sum_below k f ≤ sum_below n f
sum_below-fewer k zero f h = let e : k ≡ 0 = omega (arith, h) in rw e (omega arith)
sum_below-fewer k (suc n) f h =
    elim (cases_lt k (suc n)) [
      | inl less ↦ let l = sum_below-fewer k n f (omega (arith, less)) in omega (arith, l)
      | inr last ↦ let e : k ≡ suc n = omega (arith, h, last) in rw e (omega arith)
    ]

-- ---- sums of integers
pub sum-none : (f : ℕ → ℤ) → int_sum_below 0 f ≡ pos 0
unfolding int_sum_below
sum-none f = refl

pub sum-more : (n : ℕ) (f : ℕ → ℤ) → int_sum_below (n + 1) f ≡ int_sum_below n f +ℤ f n
unfolding int_sum_below
sum-more n f = rw (add-one n) refl

-- a sum so far and the next term
pub sum-next : (n : ℕ) (f : ℕ → ℤ) (s t : ℤ) → s ≡ int_sum_below n f → t ≡ f n → s +ℤ t ≡ int_sum_below (n + 1) f
sum-next n f s t e g = rw (e, g, sum-more n f) refl

-- a sum of numbers that leave room is read back as it is
pub sum-read : (a b : ℤ) → unsigned_abs a < 2 ^ 126 → unsigned_abs b < 2 ^ 126 → to_z w128 (of_z w128 (a +ℤ to_z w128 (of_z w128 b))) ≡ a +ℤ b
sum-read a b h g = omega (arith, ints, h, g)

-- ---- least and greatest values
pub least-none : (f : ℕ → ℤ) (first : ℤ) → least_below 0 f first ≡ first
unfolding least_below
least-none f first = refl

pub least-more : (n : ℕ) (f : ℕ → ℤ) (first : ℤ) → least_below (n + 1) f first ≡ int_min (least_below n f first) (f n)
unfolding least_below
least-more n f first = rw (add-one n) refl

pub greatest-none : (f : ℕ → ℤ) (first : ℤ) → greatest_below 0 f first ≡ first
unfolding greatest_below
greatest-none f first = refl

pub greatest-more : (n : ℕ) (f : ℕ → ℤ) (first : ℤ) → greatest_below (n + 1) f first ≡ int_max (greatest_below n f first) (f n)
unfolding greatest_below
greatest-more n f first = rw (add-one n) refl

-- a greatest value so far and the next number
pub greatest-next : (n : ℕ) (f : ℕ → ℤ) (first g z : ℤ) → g ≡ greatest_below n f first → z ≡ f n → int_max g z ≡ greatest_below (n + 1) f first
greatest-next n f first g z e h = rw (e, h, greatest-more n f first) refl

-- of one number
pub greatest-first : (f : ℕ → ℤ) → f 0 ≡ greatest_below 1 f (f 0)
unfolding greatest_below
greatest-first f = once (f 0)
  where
    once : (z : ℤ) → z ≡ int_max z z
    once z = omega (arith, ints, clamps)

-- each number lies between the least and the greatest
pub least-le : (n i : ℕ) (f : ℕ → ℤ) (first : ℤ) → i < n → least_below n f first ≤ℤ f i
unfolding least_below
least-le zero i f first h = absurd (omega (arith, h))
least-le (suc n) i f first h =
    elim (cases_lt i n) [
      | inl l ↦ let e = least-le n i f first l in omega (arith, ints, clamps, e)
      | inr g ↦ let e : i ≡ n = omega (arith, g, h) in rw e (omega (arith, ints, clamps))
    ]

pub le-greatest : (n i : ℕ) (f : ℕ → ℤ) (first : ℤ) → i < n → f i ≤ℤ greatest_below n f first
unfolding greatest_below
le-greatest zero i f first h = absurd (omega (arith, h))
le-greatest (suc n) i f first h =
    elim (cases_lt i n) [
      | inl l ↦ let e = le-greatest n i f first l in omega (arith, ints, clamps, e)
      | inr g ↦ let e : i ≡ n = omega (arith, g, h) in rw e (omega (arith, ints, clamps))
    ]

-- ---- tests
-- two tests that hold together
pub and_true : (a b : Bool) → IsTrue (a && b) → IsTrue a × IsTrue b
and_true true true t = (t, t)
and_true true false t = absurd (cc t)
and_true false b t = absurd (cc t)

-- a test that holds of all holds of each
pub all_below-at : (n : ℕ) (p : ℕ → Bool) (i : ℕ) → i < n → IsTrue (all_below n p) → IsTrue (p i)
all_below-at zero p i h t = absurd (omega (arith, h))
all_below-at (suc n) p i h t =
    let both = and_true (all_below n p) (p n) t in
    elim (cases_lt i n) [
      | inl less ↦ all_below-at n p i less both.0
      | inr more ↦ let e : i ≡ n = omega (arith, h, more) in rw e both.1
    ]

-- a test that holds of each number below n holds of all
pub all_below-from : (n : ℕ) (p : ℕ → Bool) → ((i : ℕ) → i < n → IsTrue (p i)) → IsTrue (all_below n p)
all_below-from zero p h = refl
all_below-from (suc n) p h = both (all_below n p) (p n) (all_below-from n p (λ i l. h i (omega (arith, l)))) (h n (omega arith))
  where
    both : (a b : Bool) → IsTrue a → IsTrue b → IsTrue (a && b)
    both true b t u = u
    both false b t u = t

-- a test that holds below m holds below a lesser number
pub all_below-less : (n m : ℕ) (p : ℕ → Bool) → n ≤ m → IsTrue (all_below m p) → IsTrue (all_below n p)
all_below-less n m p h t = all_below-from n p (λ i l. all_below-at m p i (omega (arith, h, l)) t)

-- a test that holds below n and at n holds below n + 1
pub all_below-more : (n : ℕ) (p : ℕ → Bool) → all_below n p ≡ true → p n ≡ true → all_below (n + 1) p ≡ true
all_below-more n p h k = rw (add-one n, h) k

-- two tests that are the same below n are the same of all
pub all_below-same : (n : ℕ) (p q : ℕ → Bool) → ((i : ℕ) → i < n → p i ≡ q i) → all_below n p ≡ all_below n q
all_below-same zero p q h = refl
all_below-same (suc n) p q h = rw (all_below-same n p q (λ i l. h i (omega (arith, l))), h n (omega arith)) refl

-- two tests of which the second fails don't hold together
pub and_false : (b : Bool) → (b && false) ≡ false
and_false true = refl
and_false false = refl

-- a test that fails somewhere doesn't hold of all
pub all_below-fails : (n : ℕ) (p : ℕ → Bool) (i : ℕ) → i < n → p i ≡ false → all_below n p ≡ false
all_below-fails zero p i h f = absurd (omega (arith, h))
all_below-fails (suc n) p i h f =
    elim (cases_lt i n) [
      | inl less ↦ rw (all_below-fails n p i less f) refl
      | inr more ↦ let e : n ≡ i = omega (arith, h, more) in rw (e, f) (and_false (all_below i p))
    ]

-- four numbers that are each of a size up to a limit are so together
pub four_small : (limit : ℕ) (f : ℕ → ℤ) (a b c d : ℤ) → a ≡ f 0 → b ≡ f 1 → c ≡ f 2 → d ≡ f 3 → ((i : ℕ) → i < 4 → unsigned_abs (f i) ≤ limit) →
    IsTrue (all_below 4 (λ i. nat_le (unsigned_abs (slice_index_or (a ∷ b ∷ c ∷ d ∷ []) i (pos 0))) limit))
four_small limit f a b c d ea eb ec ed h =
    rw (ea, eb, ec, ed, fits 0 (omega arith), fits 1 (omega arith), fits 2 (omega arith), fits 3 (omega arith)) refl
  where
    fits : (i : ℕ) → i < 4 → nat_le (unsigned_abs (f i)) limit ≡ true
    fits i l = le-leb (unsigned_abs (f i)) limit (h i l)

-- and each is, where they are so together
pub each_of_four_small : (xs : List ℤ) (limit i : ℕ) → IsTrue (all_below 4 (λ i. nat_le (unsigned_abs (slice_index_or xs i (pos 0))) limit)) → i < 4 →
    unsigned_abs (slice_index_or xs i (pos 0)) ≤ limit
each_of_four_small xs limit i h l =
    leb-true (unsigned_abs (slice_index_or xs i (pos 0))) limit (all_below-at 4 (λ i. nat_le (unsigned_abs (slice_index_or xs i (pos 0))) limit) i l h)

-- ---- functions that are the same below n
pub sum_below-same : (n : ℕ) (f g : ℕ → ℕ) → ((i : ℕ) → i < n → f i ≡ g i) → sum_below n f ≡ sum_below n g
sum_below-same zero f g h = refl
sum_below-same (suc n) f g h = rw (sum_below-same n f g (λ i l. h i (omega (arith, l))), h n (omega arith)) refl

pub greatest_below-same : (n : ℕ) (f g : ℕ → ℤ) (first : ℤ) → ((i : ℕ) → i < n → f i ≡ g i) → greatest_below n f first ≡ greatest_below n g first
unfolding greatest_below
greatest_below-same zero f g first h = refl
greatest_below-same (suc n) f g first h = rw (greatest_below-same n f g first (λ i l. h i (omega (arith, l))), h n (omega arith)) refl
