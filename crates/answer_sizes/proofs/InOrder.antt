-- Bounds of a log sum are in order.
use Rattle.std.proofs.Common.{◌≡◌, ℕ, ◌*◌, ◌^◌, ◌<◌, List, [], ◌∷◌, ◌++◌, ℤ, pos, neg_ℤ, ◌+ℤ◌, ◌*ℤ◌, ◌≤ℤ◌, refl, arith}
use Rattle.std.proofs.lemmas.Int.{ints}
use borrow.Author.Differences.{up, down}
use Rattle.log_laws.specs.Fraction.{Fraction, IsAtMost, sum_of, negated, difference}
use Rattle.log_laws.specs.LogSum.{Term, LogSum, IsAtLeastOne, AtLeast, AtMost, two_to, opposite, opposite_terms}
use Rattle.log_laws.proofs.Exports.{neg-mul, product_pos, le_of_mul-le_ℤ, at_least_adds, at_most_is_opposite, at_least_constant, dens_of}
use Rattle.log_laws.proofs.Exports.{to_front, at_least_one-reordered, at_least_one-merge, at_least_one-drop_zero}
use Rattle.log_laws.proofs.Exports.{next, swap, chain}
use Rattle.case_types.specs.Energy.Divisions.{bits}

-- a number less itself
nothing : (z : ℤ) → z +ℤ neg_ℤ z ≡ pos 0
nothing z = omega (arith, ints)

nothing_up : (z : ℤ) → up (z +ℤ neg_ℤ z) ≡ 0
nothing_up z = rw (nothing z) refl

nothing_down : (z : ℤ) → down (z +ℤ neg_ℤ z) ≡ 0
nothing_down z = rw (nothing z) refl

-- terms beside their opposites
cancelled : (z : Term) (ts : List Term) → IsAtLeastOne (z ∷ (ts ++ opposite_terms ts)) → IsAtLeastOne (z ∷ [])
cancelled z [] h = h
cancelled z (t ∷ ts) h =
    let f = t.factor in
    let rest = ts ++ opposite_terms ts in
    let turned : Term = record { factor = negated f; argument = t.argument } in
    let beside : IsAtLeastOne (z ∷ t ∷ turned ∷ rest) = at_least_one-reordered (next (next (to_front turned ts (opposite_terms ts)))) h in
    let first : IsAtLeastOne (t ∷ turned ∷ z ∷ rest) = at_least_one-reordered (chain swap (next swap)) beside in
    let merged = at_least_one-merge f (negated f) t.argument (z ∷ rest) first in
    cancelled z ts
    (at_least_one-drop_zero (sum_of f (negated f)) t.argument (z ∷ rest)
    (rw (neg-mul f.num (pos f.den)) (nothing_up (f.num *ℤ pos f.den)))
    (rw (neg-mul f.num (pos f.den)) (nothing_down (f.num *ℤ pos f.den)))
    merged)

-- what is at least one number and at most another
ordered : (s : LogSum) (q r : Fraction) → AtLeast s q → AtMost s r → IsAtMost (sum_of q (negated r)) (sum_of s.rest (negated s.rest))
ordered s q r x y =
    let both = at_least_adds s (opposite s) q (negated r) x ((at_most_is_opposite s r).0 y) in
    let zero = sum_of s.rest (negated s.rest) in
    at_least_constant zero (sum_of q (negated r))
    (record { product = cancelled (two_to (difference zero (sum_of q (negated r)))) s.terms both.product })

pub bits_ordered : (s : LogSum) (a b : ℤ) → AtLeast s (bits a) → AtMost s (bits b) → a ≤ℤ b
bits_ordered s a b x y =
    let d = s.rest.den * s.rest.den in
    let d_pos : 0 < d = product_pos s.rest.den s.rest.den (dens_of s (bits a) x).0 (dens_of s (bits a) x).0 in
    let o = rw (neg-mul s.rest.num (pos s.rest.den)) at (ordered s (bits a) (bits b) x y) in
    apart a b
    (le_of_mul-le_ℤ (a *ℤ pos (2 ^ 40) +ℤ neg_ℤ b *ℤ pos (2 ^ 40)) (pos 0) d d_pos
    (none_left (a *ℤ pos (2 ^ 40) +ℤ neg_ℤ b *ℤ pos (2 ^ 40)) (s.rest.num *ℤ pos s.rest.den) d o))
  where
    none_left : (v z : ℤ) (d : ℕ) → (v *ℤ pos d) ≤ℤ ((z +ℤ neg_ℤ z) *ℤ pos (2 ^ 40 * 2 ^ 40)) → (v *ℤ pos d) ≤ℤ (pos 0 *ℤ pos d)
    none_left v z d h = let k = rw (nothing z) at h in omega (arith, ints, k)

    apart : (a b : ℤ) → (a *ℤ pos (2 ^ 40) +ℤ neg_ℤ b *ℤ pos (2 ^ 40)) ≤ℤ pos 0 → a ≤ℤ b
    apart a b h = omega (arith, ints, h)
