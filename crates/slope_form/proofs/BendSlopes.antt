-- A sum of log sums over the components, each of which changes by numbers between ends times the step of its fraction, moves by
-- these ends less those of the last component.
use Rattle.std.proofs.Common.{ℕ, ◌*◌, ◌^◌, ◌≤◌, ◌<◌, ◌≡◌, ◌⊎◌, Bool, true, false, cond, nat_lt, suc, refl, sym, ap₂, subst, ◌∙◌, arith, inl, inr, ℤ, pos, neg_ℤ, ◌-ℤ◌, ◌*ℤ◌, ◌≤ℤ◌}
use Rattle.std.proofs.lemmas.Bool.{cases_lt}
use Rattle.std.proofs.lemmas.Int.{ints}
use Rattle.log_laws.specs.Between.{Ends, IsBetween}
use Rattle.log_laws.specs.Fraction.{Fraction, IsFraction, IsSame, negated, product_of, whole}
use Rattle.log_laws.specs.Interval.{ends}
use Rattle.log_laws.specs.LogSum.{LogSum, AtLeast, opposite}
use Rattle.log_laws.specs.Sums.{fraction_sum_below, int_sum_below, log_sum_below}
use Rattle.log_laws.proofs.Exports.{at_most_is_opposite, changes_at_least, fraction_is, neg-mul, opposite-added, opposites, over_den}
use Rattle.fix_interval.proofs.Exports.{IsBetween-negated}
use Rattle.slope_form.specs.Meaning.{MeanValue, Steps, change}
use Rattle.slope_form.proofs.LinearSlopes.{free_ends}
use Rattle.slope_form.proofs.Slopes.{Moves, Rises, all_turned, moves_wider, rises_above}
use Rattle.slope_form.proofs.WeightedSlopes.{weighted_moves}

-- ---- a value for each component, as one function
chosen_at : (i n : ℕ) → (i < n ⊎ n ≤ i) → (i < n → Fraction) → Fraction
chosen_at i n (inl l) f = f l
chosen_at i n (inr l) f = whole (pos 0)

chosen_as : (P : Fraction → Type 0) (i n : ℕ) (s : i < n ⊎ n ≤ i) (f : i < n → Fraction) → i < n → ((l : i < n) → P (f l)) → P (chosen_at i n s f)
unfolding chosen_at
chosen_as P i n (inl l) f h k = k l
chosen_as P i n (inr l) f h k = absurd (omega (arith, h, l))

-- ---- the sum moves
turned_free : (m : ℕ) (e : ℕ → Ends) (j : ℕ) → ((all_turned (free_ends m e) j).lo ≤ℤ (free_ends m (all_turned e) j).lo) × ((free_ends m (all_turned e) j).hi ≤ℤ (all_turned (free_ends m e) j).hi)
turned_free m e j = by_test (nat_lt j m)
  where
    by_test : (b : Bool) →
        let f = cond b (ends ((e j).lo -ℤ (e m).hi) ((e j).hi -ℤ (e m).lo)) (ends (pos 0) (pos 0)) in
        let g = cond b (ends (neg_ℤ (e j).hi -ℤ neg_ℤ (e m).lo) (neg_ℤ (e j).lo -ℤ neg_ℤ (e m).hi)) (ends (pos 0) (pos 0)) in
        (neg_ℤ f.hi ≤ℤ g.lo) × (g.hi ≤ℤ neg_ℤ f.lo)
    by_test true = (omega (arith, ints), omega (arith, ints))
    by_test false = (omega (arith, ints), omega (arith, ints))

-- of m + 1 components
pub bends_move : (m : ℕ) (e : ℕ → Ends) (t : ℕ → Fraction) (z : ℕ → ℤ) (d : Steps) (u v : ℕ → LogSum) → m ≤ 3 →
    ((i : ℕ) → i < suc m → IsFraction (t i)) → ((i : ℕ) → i < suc m → IsSame (t i) (over_den (z i) d.den)) → ((j : ℕ) → j < m → d.step j ≡ z j) → int_sum_below (suc m) z ≡ pos 0 →
    ((i : ℕ) → i < suc m → MeanValue (e i) (t i) (u i) (v i)) → Moves (change (log_sum_below (suc m) u) (log_sum_below (suc m) v)) (free_ends m e) d
bends_move m e t z d u v few pt is free none mean = record { rises = rises; falls = falls }
  where
    n : ℕ
    n = suc m

    low : ℕ → Fraction
    low i = chosen_at i n (cases_lt i n) (λ l. (mean i l).low)

    -- the greater numbers turned
    high : ℕ → Fraction
    high i = chosen_at i n (cases_lt i n) (λ l. negated (mean i l).high)

    rises : Rises (change (log_sum_below n u) (log_sum_below n v)) (free_ends m e) d
    rises =
        rises_above (change (log_sum_below n u) (log_sum_below n v))
        (weighted_moves m e low t z d few (λ i l. chosen_as (IsBetween (e i) (2 ^ 40)) i n (cases_lt i n) (λ l. (mean i l).low) l (λ k. (mean i k).low_in)) pt is free none).rises
        (changes_at_least n u v (λ i. product_of (low i) (t i))
        (λ i l. chosen_as (λ f. AtLeast (change (u i) (v i)) (product_of f (t i))) i n (cases_lt i n) (λ l. (mean i l).low) l (λ k. (mean i k).at_least)))

    turned : (i : ℕ) (k : i < n) → AtLeast (change (opposite (u i)) (opposite (v i))) (product_of (negated (mean i k).high) (t i))
    turned i k =
        let h = (mean i k).high in
        subst (AtLeast (change (opposite (u i)) (opposite (v i)))) (fraction_is (neg_ℤ (h.num *ℤ (t i).num)) (neg_ℤ h.num *ℤ (t i).num) (h.den * (t i).den) (h.den * (t i).den) (sym (neg-mul h.num (t i).num)) refl)
        (subst (λ (s : LogSum). AtLeast s (negated (product_of h (t i)))) (opposite-added (v i) (opposite (u i))) ((at_most_is_opposite (change (u i) (v i)) (product_of h (t i))).0 (mean i k).at_most))

    falls : Rises (opposite (change (log_sum_below n u) (log_sum_below n v))) (all_turned (free_ends m e)) d
    falls =
        rises_above (opposite (change (log_sum_below n u) (log_sum_below n v)))
        (moves_wider (all_turned (free_ends m e)) (λ j l. turned_free m e j)
        (weighted_moves m (all_turned e) high t z d few
        (λ i l. chosen_as (IsBetween (all_turned e i) (2 ^ 40)) i n (cases_lt i n) (λ l. negated (mean i l).high) l (λ k. IsBetween-negated (e i) (2 ^ 40) (mean i k).high (mean i k).high_in)) pt is free none)).rises
        (subst (λ (s : LogSum). AtLeast s (fraction_sum_below n (λ i. product_of (high i) (t i))))
        (ap₂ (λ (a b : LogSum). change a b) (opposites n u) (opposites n v) ∙ sym (opposite-added (log_sum_below n v) (opposite (log_sum_below n u))))
        (changes_at_least n (λ i. opposite (u i)) (λ i. opposite (v i)) (λ i. product_of (high i) (t i))
        (λ i l. chosen_as (λ f. AtLeast (change (opposite (u i)) (opposite (v i))) (product_of f (t i))) i n (cases_lt i n) (λ l. negated (mean i l).high) l (turned i))))
