-- Where the middle of a cell has nothing of some component, the mixing terms have no form.
use Rattle.std.proofs.Common.{◌≡◌, ◌<◌, ℕ, zero, suc, Bool, true, false, ◌&&◌, Option, Some, None, refl, ap, arith, inl, inr}
use Rattle.std.specs.Option.{option_map}
use Rattle.std.proofs.lemmas.Bool.{cases_lt}
use Rattle.log_laws.specs.Between.{Ends}
use Rattle.log_laws.specs.Sums.{all_below}
use Rattle.case_types.specs.Arithmetic.Numbers.{Numbers}
use Rattle.case_types.specs.Grid.Cells.{Region}
use Rattle.slope_form.specs.Arithmetic.{both, sum_of_ends, log_of_ends}
use Rattle.slope_form.specs.Forms.{x_log_x_ends}
use Rattle.tangent_bound.specs.SlopeLows.{centre, mixing_ends, mixing_form, sum_of_all}

-- a test of all below n that fails does so at some number
pub record Fails (n : ℕ) (p : ℕ → Bool) : Type 0 where
  pub at : ℕ
  pub below : at < n
  pub fails : p at ≡ false

earlier : (a b : Bool) → b ≡ true → (a && b) ≡ false → a ≡ false
earlier true true e h = h
earlier false true e h = refl
earlier a false e h = absurd (cc)

by_last : (n : ℕ) (p : ℕ → Bool) (b : Bool) → p n ≡ b → all_below (suc n) p ≡ false → (all_below n p ≡ false → Fails n p) → Fails (suc n) p
by_last n p false e h before = record { at = n; below = omega arith; fails = e }
by_last n p true e h before = let f = before (earlier (all_below n p) (p n) e h) in record { at = f.at; below = omega (arith, f.below); fails = f.fails }

pub fails_at : (n : ℕ) (p : ℕ → Bool) → all_below n p ≡ false → Fails n p
fails_at zero p h = absurd (cc)
fails_at (suc n) p h = by_last n p (p n) refl h (λ k. fails_at n p k)

-- a sum with a number that isn't there isn't there
none_at : (n : ℕ) (v : ℕ → Option Ends) (i : ℕ) → i < n → v i ≡ None → sum_of_all n v ≡ None
unfolding sum_of_all
none_at zero v i l h = absurd (omega (arith, l))
none_at (suc n) v i l h = elim (cases_lt i n) [
  | inl less ↦ rw (none_at n v i less h) refl
  | inr more ↦ let e : n ≡ i = omega (arith, l, more) in rw (e, h) (right (sum_of_all i v))
]
  where
    right : (a : Option Ends) → both sum_of_ends a None ≡ None
    right None = refl
    right (Some x) = refl

no_value : (p : Numbers) (r : Region) (i : ℕ) → centre p.count r i ≡ 0 → mixing_ends p r i ≡ None
unfolding x_log_x_ends log_of_ends
no_value p r i h = rw h refl

pub mixing_lacks : (p : Numbers) (r : Region) (i : ℕ) → i < p.count → centre p.count r i ≡ 0 → mixing_form p r ≡ None
unfolding mixing_form
mixing_lacks p r i l h =
    let none = none_at p.count (λ i. option_map (λ m. m.0) (mixing_ends p r i)) i l (ap (option_map (λ m. m.0)) (no_value p r i h)) in
    rw none refl
