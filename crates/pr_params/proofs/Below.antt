-- What a test and a search over the numbers below n say of one of them.
use Rattle.std.proofs.Common.{◌≡◌, ℕ, zero, suc, ◌+◌, ◌<◌, Option, None, Some, refl, arith, inl, inr, add-one, ℤ, pos, max}
use Rattle.std.proofs.lemmas.Int.{ints, clamps}
use Rattle.std.proofs.lemmas.Bool.{cases_lt}
use Rattle.case_types.specs.Arithmetic.Faults.{or_else, first_below}
use Rattle.log_laws.specs.Sums.{greatest_below}

-- where nothing is found, neither of two searches finds anything
pub or_else_none : {X : Type 0} → (a b : Option X) → or_else a b ≡ None → (a ≡ None) × (b ≡ None)
or_else_none None b e = (refl, e)
or_else_none (Some x) b e = absurd (cc e)

-- nor is there anything at one of the numbers
pub first_below_none : {X : Type 0} → (n : ℕ) (f : ℕ → Option X) (i : ℕ) → i < n → first_below n f ≡ None → f i ≡ None
unfolding first_below
first_below_none zero f i h e = absurd (omega (arith, h))
first_below_none (suc n) f i h e =
    let both = or_else_none (first_below n f) (f n) e in
    elim (cases_lt i n) [
      | inl less ↦ first_below_none n f i less both.0
      | inr more ↦ let same : i ≡ n = omega (arith, h, more) in rw same both.1
    ]

-- what is looked for isn't found below n + 1 where it isn't below n nor at n
pub first_below_more : {X : Type 0} → (n : ℕ) (f : ℕ → Option X) → first_below n f ≡ None → f n ≡ None → first_below (n + 1) f ≡ None
unfolding first_below
first_below_more n f h k = rw (add-one n, h) k

-- and is found where it first is
pub first_below_found : {X : Type 0} → (n : ℕ) (f : ℕ → Option X) (i : ℕ) (x : X) → i < n → first_below i f ≡ None → f i ≡ Some x → first_below n f ≡ Some x
unfolding first_below
first_below_found zero f i x h none found = absurd (omega (arith, h))
first_below_found (suc n) f i x h none found =
    elim (cases_lt i n) [
      | inl less ↦ rw (first_below_found n f i x less none found) refl
      | inr more ↦ let e : n ≡ i = omega (arith, h, more) in rw (e, none) found
    ]

-- it isn't found where it is nowhere
pub first_below_nowhere : {X : Type 0} → (n : ℕ) (f : ℕ → Option X) → ((i : ℕ) → i < n → f i ≡ None) → first_below n f ≡ None
unfolding first_below
first_below_nowhere zero f h = refl
first_below_nowhere (suc n) f h = rw (first_below_nowhere n f (λ i l. h i (omega (arith, l)))) (h n (omega arith))

pub first_below_zero : {X : Type 0} → (f : ℕ → Option X) → first_below 0 f ≡ None
unfolding first_below
first_below_zero f = refl

-- the greatest below n + 1 is the greater of that below n and of what is at n
pub greatest_more : (n : ℕ) (f : ℕ → ℤ) (a b m : ℕ) → pos a ≡ greatest_below n f (pos 0) → pos b ≡ f n → m ≡ max b a → pos m ≡ greatest_below (n + 1) f (pos 0)
unfolding greatest_below
greatest_more n f a b m ea eb em = rw (add-one n, ← ea, ← eb) (omega (arith, ints, clamps, em))

pub greatest_none : (f : ℕ → ℤ) → pos 0 ≡ greatest_below 0 f (pos 0)
unfolding greatest_below
greatest_none f = refl
