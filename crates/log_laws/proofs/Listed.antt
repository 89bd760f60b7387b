-- Lists over the numbers below n.
use Rattle.std.proofs.Common.{◌≡◌, ℕ, zero, suc, ◌<◌, [], ◌∷◌, length, get_or, refl, ◌∙◌, ap, arith, inl, inr, length-append}
use Rattle.std.proofs.lemmas.Bool.{cases_lt}
use Rattle.std.proofs.lemmas.List.{get_or_append_left}
use Rattle.std.proofs.Math.Seq.{get_or-append_seam}
use Rattle.log_laws.specs.Sums.{list_below}

-- a list over the numbers below n has n items
pub length-list_below : {X : Type 0} → (n : ℕ) (f : ℕ → X) → length (list_below n f) ≡ n
unfolding list_below
length-list_below zero f = refl
length-list_below (suc n) f = length-append (list_below n f) (f n ∷ []) ∙ (rw (length-list_below n f) (omega arith))

-- and its items are those of the function
pub get_or-list_below : {X : Type 0} → (n : ℕ) (f : ℕ → X) (d : X) (i : ℕ) → i < n → get_or (list_below n f) i d ≡ f i
unfolding list_below
get_or-list_below zero f d i h = absurd (omega (arith, h))
get_or-list_below (suc n) f d i h =
    let l = length-list_below n f in
    elim (cases_lt i n) [
      | inl less ↦ get_or_append_left (list_below n f) (f n ∷ []) d i (omega (arith, less, l)) ∙ get_or-list_below n f d i less
      | inr more ↦ let e : i ≡ length (list_below n f) = omega (arith, h, more, l) in
          let e' : n ≡ i = omega (arith, h, more) in
          rw e (get_or-append_seam (list_below n f) (f n) [] d) ∙ ap f e'
    ]

-- functions that are the same below n have the same list
pub list_below-same : {X : Type 0} → (n : ℕ) (f g : ℕ → X) → ((i : ℕ) → i < n → f i ≡ g i) → list_below n f ≡ list_below n g
unfolding list_below
list_below-same zero f g h = refl
list_below-same (suc n) f g h = rw (list_below-same n f g (λ i l. h i (omega (arith, l))), h n (omega arith)) refl
