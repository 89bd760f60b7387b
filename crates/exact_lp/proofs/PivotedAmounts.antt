-- A pivot keeps a basis: the new determinant isn't 0, and by the rule of least ratio no amount falls below 0.
use Rattle.std.proofs.Common.{◌≡◌, ℕ, ◌<◌, ◌≤◌, ◌⊎◌, inl, inr, [], ◌∷◌, ℤ, pos, negsuc, neg_ℤ, ◌+ℤ◌, ◌*ℤ◌, ◌≤ℤ◌, ◌<ℤ◌, unsigned_abs, refl, ap, ◌∙◌, arith, slice_index_or}
use Rattle.std.proofs.Math.IntN.{*ℤ_comm}
use Rattle.std.proofs.lemmas.Int.{ints}
use Rattle.energy_surface.specs.Program.Determinants.{determinant, with_row}
use Rattle.energy_surface.specs.Program.Solutions.{signed_by, size, amount}
use Rattle.log_laws.proofs.Exports.{≤ℤ_trans, products_up, products_down, factor_up, unknown, added, times, minus, identity}
use Rattle.exact_lp.specs.Frames.{filled, masked}
use Rattle.exact_lp.proofs.DeterminantRules.{filled-determinant}
use Rattle.exact_lp.proofs.Systems.{with_row-filled, rows_filled}
use Rattle.exact_lp.proofs.Exchanges.{exchange}

-- ---- the identity of an exchange, for one to four
two_filled : (n : ℕ) → 1 ≤ n → n ≤ 4 → (m : ℕ → ℕ → ℤ) (x y : ℕ → ℤ) (j k : ℕ) → j < n → k < n →
    determinant n (with_row j x (with_row k y m)) ≡ determinant 4 (with_row j (masked n x) (with_row k (masked n y) (filled n m)))
two_filled n low high m x y j k h g =
    with_row-filled n low high (with_row k y m) x j h
    ∙ ap (λ p. determinant 4 (with_row j (masked n x) p)) (rows_filled n m y k g)

exchanged : (n : ℕ) → 1 ≤ n → n ≤ 4 → (m : ℕ → ℕ → ℤ) (x y : ℕ → ℤ) (j k : ℕ) → j < n → k < n → (j ≡ k → ⊥) →
    determinant n m *ℤ determinant n (with_row j x (with_row k y m)) +ℤ determinant n (with_row j y m) *ℤ determinant n (with_row k x m)
    ≡ determinant n (with_row j x m) *ℤ determinant n (with_row k y m)
exchanged n low high m x y j k h g apart =
    rw (two_filled n low high m x y j k h g, filled-determinant n low high m, with_row-filled n low high m y j h, with_row-filled n low high m x k g, with_row-filled n low high m x j h, with_row-filled n low high m y k g)
    (exchange j k (omega (arith, h, high)) (omega (arith, g, high)) apart (filled n m) (masked n x) (masked n y))

signs : (d p a b c e : ℤ) → d *ℤ p +ℤ a *ℤ b ≡ c *ℤ e →
    pos (unsigned_abs d) *ℤ signed_by d p +ℤ signed_by d a *ℤ signed_by d b ≡ signed_by d c *ℤ signed_by d e
signs (pos d) p a b c e h = h
signs (negsuc d) p a b c e h = left (negsuc d) p a b ∙ h ∙ right c e
  where
    left : (d p a b : ℤ) → neg_ℤ d *ℤ neg_ℤ p +ℤ neg_ℤ a *ℤ neg_ℤ b ≡ d *ℤ p +ℤ a *ℤ b
    left d p a b =
        identity (λ i. slice_index_or (d ∷ p ∷ a ∷ b ∷ []) i (pos 0))
        (added (times (minus (unknown 0)) (minus (unknown 1))) (times (minus (unknown 2)) (minus (unknown 3)))) (added (times (unknown 0) (unknown 1)) (times (unknown 2) (unknown 3))) refl

    right : (c e : ℤ) → c *ℤ e ≡ neg_ℤ c *ℤ neg_ℤ e
    right c e = identity (λ i. slice_index_or (c ∷ e ∷ []) i (pos 0)) (times (unknown 0) (unknown 1)) (times (minus (unknown 0)) (minus (unknown 1))) refl

sign_kept : (d e y : ℤ) → pos 0 <ℤ signed_by d e → signed_by e y ≡ signed_by d y
sign_kept (pos d) (pos e) y h = refl
sign_kept (pos d) (negsuc e) y h = absurd (omega (arith, ints, h))
sign_kept (negsuc d) (pos e) y h = absurd (omega (arith, ints, h))
sign_kept (negsuc d) (negsuc e) y h = refl

-- the amounts after the pivot
pub amount_left : (n : ℕ) (m : ℕ → ℕ → ℤ) (x z : ℕ → ℤ) (k : ℕ) → pos 0 <ℤ amount n m x k →
    signed_by (determinant n (with_row k x m)) (determinant n (with_row k z m)) ≡ amount n m z k
amount_left n m x z k h = sign_kept (determinant n m) (determinant n (with_row k x m)) (determinant n (with_row k z m)) h

pub amount_after : (n : ℕ) → 1 ≤ n → n ≤ 4 → (m : ℕ → ℕ → ℤ) (x z : ℕ → ℤ) (j k : ℕ) → j < n → k < n → (j ≡ k → ⊥) → pos 0 <ℤ amount n m x k →
    pos (size n m) *ℤ amount n (with_row k x m) z j +ℤ amount n m x j *ℤ amount n m z k ≡ amount n m z j *ℤ amount n m x k
amount_after n low high m x z j k h g apart takes =
    rw (sign_kept (determinant n m) (determinant n (with_row k x m)) (determinant n (with_row j z (with_row k x m))) takes)
    (signs (determinant n m) (determinant n (with_row j z (with_row k x m))) (determinant n (with_row j x m)) (determinant n (with_row k z m)) (determinant n (with_row j z m)) (determinant n (with_row k x m))
    (exchanged n low high m z x j k h g apart))

-- ---- signs of products
left_over : (p q r : ℤ) → p +ℤ q ≡ r → q ≤ℤ r → pos 0 ≤ℤ p
left_over p q r h k = omega (arith, ints)

less_or_same : (a b : ℤ) → (a <ℤ b) ⊎ (a ≡ b) → a ≤ℤ b
less_or_same a b (inl h) = omega (arith, ints, h)
less_or_same a b (inr h) = omega (arith, ints, h)

-- the amount stays at least 0 where its column takes no part, or has no lesser ratio
pub amount_kept : (n : ℕ) → 1 ≤ n → n ≤ 4 → (m : ℕ → ℕ → ℤ) (x z : ℕ → ℤ) (j k : ℕ) → j < n → k < n → (j ≡ k → ⊥) → pos 0 <ℤ amount n m x k →
    0 < size n m → pos 0 ≤ℤ amount n m z j → pos 0 ≤ℤ amount n m z k →
    (amount n m x j ≤ℤ pos 0) ⊎ ((amount n m z k *ℤ amount n m x j) ≤ℤ (amount n m z j *ℤ amount n m x k)) →
    pos 0 ≤ℤ amount n (with_row k x m) z j
amount_kept n low high m x z j k h g apart takes spans zj zk (inl down) =
    factor_up (size n m) (amount n (with_row k x m) z j) spans
    (left_over (pos (size n m) *ℤ amount n (with_row k x m) z j) (amount n m x j *ℤ amount n m z k) (amount n m z j *ℤ amount n m x k)
    (amount_after n low high m x z j k h g apart takes)
    (≤ℤ_trans (amount n m x j *ℤ amount n m z k) (pos 0) (amount n m z j *ℤ amount n m x k) (products_down (amount n m x j) (amount n m z k) down zk) (products_up (amount n m z j) (amount n m x k) zj (omega (arith, ints, takes)))))
amount_kept n low high m x z j k h g apart takes spans zj zk (inr less) =
    factor_up (size n m) (amount n (with_row k x m) z j) spans
    (left_over (pos (size n m) *ℤ amount n (with_row k x m) z j) (amount n m x j *ℤ amount n m z k) (amount n m z j *ℤ amount n m x k)
    (amount_after n low high m x z j k h g apart takes) (rw (*ℤ_comm (amount n m x j) (amount n m z k)) less))
