-- Sums of differences v - u of log sums, and of opposites.
use Rattle.std.proofs.Common.{ℕ, ◌<◌, ◌≡◌, zero, suc, refl, sym, ap, ◌∙◌, arith, lit<}
use lib.IntN.{pos}
use Rattle.log_laws.specs.Fraction.{Fraction, sum_of, whole}
use Rattle.log_laws.specs.LogSum.{LogSum, AtLeast, added, opposite}
use Rattle.log_laws.specs.Sums.{fraction_sum_below, log_sum_below}
use Rattle.log_laws.proofs.ChangeRules.{sum_rule}
use Rattle.log_laws.proofs.Spellings.{opposite-added}
use Rattle.log_laws.proofs.Sums.{at_least_adds}
use Rattle.log_laws.proofs.Terms.{constant_at_least}

pub changes_at_least : (n : ℕ) (u v : ℕ → LogSum) (b : ℕ → Fraction) → ((i : ℕ) → i < n → AtLeast (added (v i) (opposite (u i))) (b i)) → AtLeast (added (log_sum_below n v) (opposite (log_sum_below n u))) (fraction_sum_below n b)
unfolding log_sum_below fraction_sum_below
changes_at_least zero u v b h = constant_at_least (whole (pos 0)) (lit< tt)
changes_at_least (suc n) u v b h =
    sum_rule (log_sum_below n u) (log_sum_below n v) (u n) (v n) (sum_of (fraction_sum_below n b) (b n))
    (at_least_adds (added (log_sum_below n v) (opposite (log_sum_below n u))) (added (v n) (opposite (u n))) (fraction_sum_below n b) (b n) (changes_at_least n u v b (λ i l. h i (omega (arith, l)))) (h n (omega arith)))

pub opposites : (n : ℕ) (u : ℕ → LogSum) → log_sum_below n (λ i. opposite (u i)) ≡ opposite (log_sum_below n u)
unfolding log_sum_below
opposites zero u = refl
opposites (suc n) u = ap (λ (s : LogSum). added s (opposite (u n))) (opposites n u) ∙ sym (opposite-added (log_sum_below n u) (u n))
