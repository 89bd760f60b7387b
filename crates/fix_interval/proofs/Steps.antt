-- Numbers of a linear form: each is small, and so is its opposite.
use Rattle.std.proofs.Common.{◌≡◌, ◌∙◌, ℕ, ◌<◌, ◌≤◌, ℤ, pos, neg_ℤ, ◌-ℤ◌, List, slice_index_or, arith, ap}
use Rattle.std.proofs.lemmas.Int.{ints}
use Rattle.log_laws.specs.Linear.{affine_high, affine_low}
use Rattle.log_laws.proofs.Exports.{affine_high-same}

abbrev pub number_of : List ℤ → ℕ → ℤ
number_of numbers i = slice_index_or numbers i (pos 0)

-- the lower end from the upper end of the opposites
pub low_is : (rest : ℕ) (last less last_read less_read : ℤ) (numbers others : List ℤ) (lo hi : ℕ → ℕ) (h : ℤ) → rest ≤ 3 → last_read ≡ neg_ℤ last → less_read ≡ neg_ℤ less →
    ((i : ℕ) → i < 4 → number_of others i ≡ neg_ℤ (number_of numbers i)) → h ≡ affine_high rest last_read (λ i. number_of others i -ℤ less_read) lo hi →
    neg_ℤ h ≡ affine_low rest last (λ i. number_of numbers i -ℤ less) lo hi
low_is rest last less last_read less_read numbers others lo hi h few last_is less_is opposite e =
    ap neg_ℤ (e ∙ ap (λ z. affine_high rest z (λ i. number_of others i -ℤ less_read) lo hi) last_is
    ∙ affine_high-same rest (neg_ℤ last) (λ i. number_of others i -ℤ less_read) (λ i. neg_ℤ (number_of numbers i -ℤ less)) lo hi
    (λ i l. turned (number_of others i) (number_of numbers i) (opposite i (omega (arith, l, few)))))
  where
    turned : (a b : ℤ) → a ≡ neg_ℤ b → a -ℤ less_read ≡ neg_ℤ (b -ℤ less)
    turned a b is = rw (is, less_is) (omega (arith, ints))
