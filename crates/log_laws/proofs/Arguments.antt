-- The argument and the factor of one term of a log sum: a larger argument, a product of arguments, a sum of factors.
use Rattle.std.proofs.Common.{ℕ, ◌*◌, ◌<◌, ◌≤◌, ◌≡◌, refl, arith, ◌∷◌}
use lib.IntN.{ℤ, pos, negsuc, ◌*ℤ◌}
use Rattle.std.specs.Prelude.{◌≤ℤ◌}
use borrow.Author.Differences.{up, down, le_out}
use Rattle.log_laws.specs.Fraction.{sum_of, product_of, difference}
use Rattle.log_laws.specs.LogSum.{IsAtLeastOne, two_to}
use Rattle.log_laws.specs.Logarithms.{AtLeastTakesLarger, AtLeastMultiplies, AtLeastMerges}
use Rattle.log_laws.proofs.Order.{at_least_one-reordered}
use Rattle.log_laws.proofs.Order.IsReordered.{next, swap, chain}
use Rattle.log_laws.proofs.Steps.{term, at_least_one-larger, at_least_one-product, at_least_one-factors, at_least_one-merge, at_least_one-split}

none_below : (z : ℤ) → pos 0 ≤ℤ z → down z ≡ 0
none_below (pos n) h = refl
none_below (negsuc n) h = absurd (omega (arith, le_out (pos 0) (negsuc n) h))

pub at_least_takes_larger : AtLeastTakesLarger
at_least_takes_larger f a b s r h pb l x =
    let two = two_to (difference s.rest r) in
    let y : IsAtLeastOne (term f a ∷ two ∷ s.terms) = at_least_one-reordered swap x.product in
    record {
      product = at_least_one-reordered swap (at_least_one-larger f a b (two ∷ s.terms) (none_below f.num h) pb (crossed a.num b.num a.den b.den l pb.1) y);
    }
  where
    crossed : (z w : ℤ) (d e : ℕ) → (z *ℤ pos e) ≤ℤ (w *ℤ pos d) → 0 < up w → up z * e ≤ up w * d
    crossed (negsuc n) w d e l k = omega arith
    crossed (pos n) (negsuc m) d e l k = absurd (omega arith)
    crossed (pos n) (pos m) d e l k = omega (arith, le_out (pos n *ℤ pos e) (pos m *ℤ pos d) l)

pub at_least_multiplies : AtLeastMultiplies
at_least_multiplies f a b s r pa pb = (
  λ x. (let y : IsAtLeastOne (term f a ∷ term f b ∷ two_to (difference s.rest r) ∷ s.terms) = at_least_one-reordered (chain swap (next swap)) x.product in
      record { product = at_least_one-reordered swap (at_least_one-product f a b (two_to (difference s.rest r) ∷ s.terms) pa pb y) }),
  λ x. (let y : IsAtLeastOne (term f (product_of a b) ∷ two_to (difference s.rest r) ∷ s.terms) = at_least_one-reordered swap x.product in
      record { product = at_least_one-reordered (chain (next swap) swap) (at_least_one-factors f a b (two_to (difference s.rest r) ∷ s.terms) pa pb y) }),
)

pub at_least_merges : AtLeastMerges
at_least_merges f g a s r pf pg = (
  λ x. (let y : IsAtLeastOne (term f a ∷ term g a ∷ two_to (difference s.rest r) ∷ s.terms) = at_least_one-reordered (chain swap (next swap)) x.product in
      record { product = at_least_one-reordered swap (at_least_one-merge f g a (two_to (difference s.rest r) ∷ s.terms) y) }),
  λ x. (let y : IsAtLeastOne (term (sum_of f g) a ∷ two_to (difference s.rest r) ∷ s.terms) = at_least_one-reordered swap x.product in
      record { product = at_least_one-reordered (chain (next swap) swap) (at_least_one-split f g a (two_to (difference s.rest r) ∷ s.terms) pf pg y) }),
)
