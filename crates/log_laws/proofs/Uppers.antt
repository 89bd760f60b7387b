-- Upper bounds of log sums, by lower bounds of the opposites.
use Rattle.std.proofs.Common.{ℕ, ◌+◌, ◌*◌, ◌<◌, ◌≤◌, ◌≡◌, arith}
use Rattle.std.proofs.lemmas.Int.{ints}
use Rattle.std.specs.Prelude.{◌≤ℤ◌}
use lib.IntN.{ℤ, pos, neg_ℤ, ◌+ℤ◌, ◌*ℤ◌}
use Rattle.log_laws.specs.Fraction.{Fraction, IsFraction, IsAtMost, negated, product_of}
use Rattle.log_laws.specs.LogSum.{LogSum, AtMost, added, scaled, opposite, constant}
use Rattle.log_laws.proofs.Ring.{neg-mul}
use Rattle.log_laws.proofs.Parts.{IsParts, parts_negated}
use Rattle.log_laws.proofs.Spellings.{product-negated, opposite-added, scaled-opposite}
use Rattle.log_laws.proofs.Sums.{at_least_scales, at_least_lowers}
use Rattle.log_laws.proofs.Opposite.{at_most_is_opposite}
use Rattle.log_laws.proofs.Terms.{over_den, lowered, at_least_adds_at, constant_at_least}

-- ---- upper bounds add, scale and may be raised
pub at_most_scales : (c : Fraction) (s : LogSum) (r : Fraction) → IsFraction c → pos 0 ≤ℤ c.num → AtMost s r → AtMost (scaled c s) (product_of c r)
at_most_scales c s r h k x =
    (at_most_is_opposite (scaled c s) (product_of c r)).1
    (rw (← scaled-opposite c s, ← product-negated c r) (at_least_scales c (opposite s) (negated r) h k ((at_most_is_opposite s r).0 x)))

pub at_most_raises : (s : LogSum) (q r : Fraction) → IsFraction r → IsAtMost q r → AtMost s q → AtMost s r
at_most_raises s q r h l x =
    (at_most_is_opposite s r).1
    (at_least_lowers (opposite s) (negated q) (negated r) h (turned q.num r.num q.den r.den l) ((at_most_is_opposite s q).0 x))
  where
    turned : (a b : ℤ) (d e : ℕ) → (a *ℤ pos e) ≤ℤ (b *ℤ pos d) → (neg_ℤ b *ℤ pos d) ≤ℤ (neg_ℤ a *ℤ pos e)
    turned a b d e l = rw (neg-mul b (pos d), neg-mul a (pos e)) (omega (arith, ints))

pub heightened : (s : LogSum) (q r : Fraction) {u v d u' v' d' : ℕ} → IsParts q u v d → IsParts r u' v' d' → u * d' + v' * d ≤ u' * d + v * d' → AtMost s q → AtMost s r
heightened s q r {u} {v} {d} {u'} {v'} {d'} p p' l x =
    (at_most_is_opposite s r).1
    (lowered (opposite s) (negated q) (negated r) (parts_negated p) (parts_negated p') (turned u v d u' v' d' l) ((at_most_is_opposite s q).0 x))
  where
    turned : (u v d u' v' d' : ℕ) → u * d' + v' * d ≤ u' * d + v * d' → v' * d + u * d' ≤ v * d' + u' * d
    turned u v d u' v' d' l = omega arith

pub at_most_adds_at : (s t : LogSum) (q r : ℤ) (d : ℕ) → 0 < d → AtMost s (over_den q d) → AtMost t (over_den r d) → AtMost (added s t) (over_den (q +ℤ r) d)
at_most_adds_at s t q r d h x y =
    (at_most_is_opposite (added s t) (over_den (q +ℤ r) d)).1
    (rw (opposite-added s t, turned q r)
    (at_least_adds_at (opposite s) (opposite t) (neg_ℤ q) (neg_ℤ r) d h ((at_most_is_opposite s (over_den q d)).0 x) ((at_most_is_opposite t (over_den r d)).0 y)))
  where
    turned : (q r : ℤ) → neg_ℤ (q +ℤ r) ≡ neg_ℤ q +ℤ neg_ℤ r
    turned q r = omega (arith, ints)

-- a constant is at most itself
pub constant_at_most : (f : Fraction) → IsFraction f → AtMost (constant f) f
constant_at_most f h = (at_most_is_opposite (constant f) f).1 (constant_at_least (negated f) h)
