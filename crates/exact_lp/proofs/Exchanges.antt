-- What an exchange of two rows does to a determinant.
use Rattle.std.proofs.Common.{◌≡◌, ℕ, ◌<◌, ℤ, ◌+ℤ◌, ◌*ℤ◌, refl}
use Rattle.std.proofs.Math.IntN.{*ℤ_comm}
use Rattle.log_laws.specs.Sums.{int_sum_below}
use Rattle.energy_surface.specs.Program.Determinants.{determinant, with_row}
use Rattle.log_laws.proofs.Exports.{added, times, identity}
use Rattle.exact_lp.proofs.DeterminantRules.{expanded, entry, rowed, given, other, read, by_place}

-- the determinant with two rows replaced, by those with one replaced
abbrev pub Exchanges : ℕ → ℕ → (ℕ → ℕ → ℤ) → (ℕ → ℤ) → (ℕ → ℤ) → Type 0
Exchanges j k m x y =
    determinant 4 m *ℤ determinant 4 (with_row j x (with_row k y m)) +ℤ determinant 4 (with_row j y m) *ℤ determinant 4 (with_row k x m)
    ≡ determinant 4 (with_row j x m) *ℤ determinant 4 (with_row k y m)

exchange_0_1 : (m : ℕ → ℕ → ℤ) (x y : ℕ → ℤ) → Exchanges 0 1 m x y
unfolding determinant int_sum_below
exchange_0_1 m x y =
    identity (read m x y)
    (added (times (expanded 4 entry) (expanded 4 (rowed 0 given (rowed 1 other entry)))) (times (expanded 4 (rowed 0 other entry)) (expanded 4 (rowed 1 given entry))))
    (times (expanded 4 (rowed 0 given entry)) (expanded 4 (rowed 1 other entry))) refl

exchange_0_2 : (m : ℕ → ℕ → ℤ) (x y : ℕ → ℤ) → Exchanges 0 2 m x y
unfolding determinant int_sum_below
exchange_0_2 m x y =
    identity (read m x y)
    (added (times (expanded 4 entry) (expanded 4 (rowed 0 given (rowed 2 other entry)))) (times (expanded 4 (rowed 0 other entry)) (expanded 4 (rowed 2 given entry))))
    (times (expanded 4 (rowed 0 given entry)) (expanded 4 (rowed 2 other entry))) refl

exchange_0_3 : (m : ℕ → ℕ → ℤ) (x y : ℕ → ℤ) → Exchanges 0 3 m x y
unfolding determinant int_sum_below
exchange_0_3 m x y =
    identity (read m x y)
    (added (times (expanded 4 entry) (expanded 4 (rowed 0 given (rowed 3 other entry)))) (times (expanded 4 (rowed 0 other entry)) (expanded 4 (rowed 3 given entry))))
    (times (expanded 4 (rowed 0 given entry)) (expanded 4 (rowed 3 other entry))) refl

exchange_1_2 : (m : ℕ → ℕ → ℤ) (x y : ℕ → ℤ) → Exchanges 1 2 m x y
unfolding determinant int_sum_below
exchange_1_2 m x y =
    identity (read m x y)
    (added (times (expanded 4 entry) (expanded 4 (rowed 1 given (rowed 2 other entry)))) (times (expanded 4 (rowed 1 other entry)) (expanded 4 (rowed 2 given entry))))
    (times (expanded 4 (rowed 1 given entry)) (expanded 4 (rowed 2 other entry))) refl

exchange_1_3 : (m : ℕ → ℕ → ℤ) (x y : ℕ → ℤ) → Exchanges 1 3 m x y
unfolding determinant int_sum_below
exchange_1_3 m x y =
    identity (read m x y)
    (added (times (expanded 4 entry) (expanded 4 (rowed 1 given (rowed 3 other entry)))) (times (expanded 4 (rowed 1 other entry)) (expanded 4 (rowed 3 given entry))))
    (times (expanded 4 (rowed 1 given entry)) (expanded 4 (rowed 3 other entry))) refl

exchange_2_3 : (m : ℕ → ℕ → ℤ) (x y : ℕ → ℤ) → Exchanges 2 3 m x y
unfolding determinant int_sum_below
exchange_2_3 m x y =
    identity (read m x y)
    (added (times (expanded 4 entry) (expanded 4 (rowed 2 given (rowed 3 other entry)))) (times (expanded 4 (rowed 2 other entry)) (expanded 4 (rowed 3 given entry))))
    (times (expanded 4 (rowed 2 given entry)) (expanded 4 (rowed 3 other entry))) refl

turned_over : (d p a b c e : ℤ) → d *ℤ p +ℤ a *ℤ b ≡ c *ℤ e → d *ℤ p +ℤ b *ℤ a ≡ e *ℤ c
turned_over d p a b c e h = rw (*ℤ_comm b a, *ℤ_comm e c) h

exchange_1_0 : (m : ℕ → ℕ → ℤ) (x y : ℕ → ℤ) → Exchanges 1 0 m x y
unfolding determinant int_sum_below
exchange_1_0 m x y =
    turned_over (determinant 4 m) (determinant 4 (with_row 0 y (with_row 1 x m)))
    (determinant 4 (with_row 0 x m)) (determinant 4 (with_row 1 y m)) (determinant 4 (with_row 0 y m)) (determinant 4 (with_row 1 x m)) (exchange_0_1 m y x)

exchange_2_0 : (m : ℕ → ℕ → ℤ) (x y : ℕ → ℤ) → Exchanges 2 0 m x y
unfolding determinant int_sum_below
exchange_2_0 m x y =
    turned_over (determinant 4 m) (determinant 4 (with_row 0 y (with_row 2 x m)))
    (determinant 4 (with_row 0 x m)) (determinant 4 (with_row 2 y m)) (determinant 4 (with_row 0 y m)) (determinant 4 (with_row 2 x m)) (exchange_0_2 m y x)

exchange_2_1 : (m : ℕ → ℕ → ℤ) (x y : ℕ → ℤ) → Exchanges 2 1 m x y
unfolding determinant int_sum_below
exchange_2_1 m x y =
    turned_over (determinant 4 m) (determinant 4 (with_row 1 y (with_row 2 x m)))
    (determinant 4 (with_row 1 x m)) (determinant 4 (with_row 2 y m)) (determinant 4 (with_row 1 y m)) (determinant 4 (with_row 2 x m)) (exchange_1_2 m y x)

exchange_3_0 : (m : ℕ → ℕ → ℤ) (x y : ℕ → ℤ) → Exchanges 3 0 m x y
unfolding determinant int_sum_below
exchange_3_0 m x y =
    turned_over (determinant 4 m) (determinant 4 (with_row 0 y (with_row 3 x m)))
    (determinant 4 (with_row 0 x m)) (determinant 4 (with_row 3 y m)) (determinant 4 (with_row 0 y m)) (determinant 4 (with_row 3 x m)) (exchange_0_3 m y x)

exchange_3_1 : (m : ℕ → ℕ → ℤ) (x y : ℕ → ℤ) → Exchanges 3 1 m x y
unfolding determinant int_sum_below
exchange_3_1 m x y =
    turned_over (determinant 4 m) (determinant 4 (with_row 1 y (with_row 3 x m)))
    (determinant 4 (with_row 1 x m)) (determinant 4 (with_row 3 y m)) (determinant 4 (with_row 1 y m)) (determinant 4 (with_row 3 x m)) (exchange_1_3 m y x)

exchange_3_2 : (m : ℕ → ℕ → ℤ) (x y : ℕ → ℤ) → Exchanges 3 2 m x y
unfolding determinant int_sum_below
exchange_3_2 m x y =
    turned_over (determinant 4 m) (determinant 4 (with_row 2 y (with_row 3 x m)))
    (determinant 4 (with_row 2 x m)) (determinant 4 (with_row 3 y m)) (determinant 4 (with_row 2 y m)) (determinant 4 (with_row 3 x m)) (exchange_2_3 m y x)

pub exchange : (j k : ℕ) → j < 4 → k < 4 → (j ≡ k → ⊥) → (m : ℕ → ℕ → ℤ) (x y : ℕ → ℤ) → Exchanges j k m x y
exchange j k h g apart m x y =
    by_place (λ j. (k : ℕ) → k < 4 → (j ≡ k → ⊥) → Exchanges j k m x y)
    (λ k g. by_place (λ k. (0 ≡ k → ⊥) → Exchanges 0 k m x y) (λ n. absurd (n refl)) (λ _. exchange_0_1 m x y) (λ _. exchange_0_2 m x y) (λ _. exchange_0_3 m x y) k g)
    (λ k g. by_place (λ k. (1 ≡ k → ⊥) → Exchanges 1 k m x y) (λ _. exchange_1_0 m x y) (λ n. absurd (n refl)) (λ _. exchange_1_2 m x y) (λ _. exchange_1_3 m x y) k g)
    (λ k g. by_place (λ k. (2 ≡ k → ⊥) → Exchanges 2 k m x y) (λ _. exchange_2_0 m x y) (λ _. exchange_2_1 m x y) (λ n. absurd (n refl)) (λ _. exchange_2_3 m x y) k g)
    (λ k g. by_place (λ k. (3 ≡ k → ⊥) → Exchanges 3 k m x y) (λ _. exchange_3_0 m x y) (λ _. exchange_3_1 m x y) (λ _. exchange_3_2 m x y) (λ n. absurd (n refl)) k g)
    j h k g apart
