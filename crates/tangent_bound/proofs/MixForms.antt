-- Sums of numbers of the components, and forms made of them, depend on the numbers of the components that are there alone.
use Rattle.std.proofs.Common.{◌≡◌, ℕ, zero, suc, ◌+◌, ◌-◌, ◌<◌, ◌≤◌, List, [], ◌∷◌, length, get_or, Option, Some, true, false, refl, sym, ap, ap₂, ◌∙◌, arith, inl, inr}
use Rattle.std.specs.Prelude.{nat_lt}
use Rattle.std.proofs.lemmas.Bool.{cases_lt, lt-ltb, le-ltb}
use Rattle.log_laws.specs.Between.{Ends}
use Rattle.log_laws.specs.declared.iv.Iv.{Iv}
use Rattle.case_types.specs.Arithmetic.Tables.{no_ends}
use Rattle.slope_form.specs.Arithmetic.{both, ends_if, sum_of_ends}
use Rattle.slope_form.specs.Forms.{Form}
use Rattle.tangent_bound.specs.SlopeLows.{sum_of_all, free_slope, mix_form}
use Rattle.tangent_bound.specs.SlopeParts.{entry}

pub sum-none : (v : ℕ → Option Ends) → Some no_ends ≡ sum_of_all 0 v
unfolding sum_of_all
sum-none v = refl

pub sum-next : (n : ℕ) (v : ℕ → Option Ends) → both sum_of_ends (sum_of_all n v) (v n) ≡ sum_of_all (n + 1) v
unfolding sum_of_all
sum-next n v = let e : n + 1 ≡ suc n = omega arith in rw e refl

-- the same numbers have the same sum
pub sum-same : (n : ℕ) (v w : ℕ → Option Ends) → ((i : ℕ) → i < n → v i ≡ w i) → sum_of_all n v ≡ sum_of_all n w
unfolding sum_of_all
sum-same zero v w h = refl
sum-same (suc n) v w h = ap₂ (both sum_of_ends) (sum-same n v w (λ i l. h i (omega (arith, l)))) (h n (omega arith))

-- and make the same slopes
slope-same : (n : ℕ) (v w : ℕ → Option Ends) (j : ℕ) → 1 ≤ n → ((i : ℕ) → i < n → v i ≡ w i) → free_slope n v j ≡ free_slope n w j
slope-same n v w j s h = elim (cases_lt j (n - 1)) [
  | inl l ↦ let free : nat_lt j (n - 1) ≡ true = lt-ltb j (n - 1) l in
      rw (free, h j (omega (arith, l)), h (n - 1) (omega (arith, s))) refl
  | inr l ↦ let bound : nat_lt j (n - 1) ≡ false = le-ltb j (n - 1) l in rw bound refl
]

pub form-same : (n : ℕ) (a b : Option Ends) (v w : ℕ → Option Ends) → 1 ≤ n → a ≡ b → ((i : ℕ) → i < n → v i ≡ w i) → (over : Option Ends) →
    mix_form n a over v ≡ mix_form n b over w
form-same n a b v w s e h over =
    rw (e, slope-same n v w 0 s h, slope-same n v w 1 s h, slope-same n v w 2 s h, slope-same n v w 3 s h) refl

-- a list of four entries, of which the first n are those of a function
pub four_entries : (n : ℕ) (a b c d : Option Iv) (w : ℕ → Option Ends) → n ≤ 4 → (0 < n → ends_if a ≡ w 0) → (1 < n → ends_if b ≡ w 1) → (2 < n → ends_if c ≡ w 2) →
    (3 < n → ends_if d ≡ w 3) → (i : ℕ) → i < n → entry (a ∷ b ∷ c ∷ d ∷ []) i ≡ w i
four_entries n a b c d w f ea eb ec ed zero l = ea l
four_entries n a b c d w f ea eb ec ed (suc zero) l = eb l
four_entries n a b c d w f ea eb ec ed (suc (suc zero)) l = ec l
four_entries n a b c d w f ea eb ec ed (suc (suc (suc zero))) l = ed l
four_entries n a b c d w f ea eb ec ed (suc (suc (suc (suc i)))) l = absurd (omega (arith, f, l))

-- an entry, as a loop reads it
pub entry_of : (xs : List (Option Iv)) (i : ℕ) (r : Option Iv) → i < length xs → ends_if (get_or xs i r) ≡ entry xs i
entry_of [] i r l = absurd (omega (arith, l))
entry_of (x ∷ xs) zero r l = refl
entry_of (x ∷ xs) (suc i) r l = entry_of xs i r (omega (arith, l))

-- ---- a sum over n components, counted as k
pub sum_of : (n k : ℕ) (v w : ℕ → Option Ends) (r : Option Ends) → k ≡ n → r ≡ sum_of_all n v → ((i : ℕ) → i < n → v i ≡ w i) → r ≡ sum_of_all k w
sum_of n k v w r e h same = h ∙ sum-same n v w same ∙ ap (λ (m : ℕ). sum_of_all m w) (sym e)

-- ---- as the code has them: lists of four entries, of n components counted as k
pub sum_by : (n k : ℕ) (a b c d : Option Iv) (w : ℕ → Option Ends) (r : Option Ends) → n ≤ 4 → k ≡ n → r ≡ sum_of_all n (entry (a ∷ b ∷ c ∷ d ∷ [])) →
    (0 < n → ends_if a ≡ w 0) → (1 < n → ends_if b ≡ w 1) → (2 < n → ends_if c ≡ w 2) → (3 < n → ends_if d ≡ w 3) → r ≡ sum_of_all k w
sum_by n k a b c d w r f e h ea eb ec ed =
    sum_of n k (entry (a ∷ b ∷ c ∷ d ∷ [])) w r e h (four_entries n a b c d w f ea eb ec ed)

pub form_by : (n k : ℕ) (at at' over over' : Option Ends) (a b c d : Option Iv) (w : ℕ → Option Ends) (r : Option Form) → 1 ≤ n → n ≤ 4 → k ≡ n →
    r ≡ mix_form n at over (entry (a ∷ b ∷ c ∷ d ∷ [])) → at ≡ at' → over ≡ over' →
    (0 < n → ends_if a ≡ w 0) → (1 < n → ends_if b ≡ w 1) → (2 < n → ends_if c ≡ w 2) → (3 < n → ends_if d ≡ w 3) → r ≡ mix_form k at' over' w
form_by n k at at' over over' a b c d w r s f e h ha ho ea eb ec ed =
    h ∙ form-same n at at' (entry (a ∷ b ∷ c ∷ d ∷ [])) w s ha (four_entries n a b c d w f ea eb ec ed) over
    ∙ ap₂ (λ (m : ℕ) (o : Option Ends). mix_form m at' o w) (sym e) ho
