-- The rules of determinants of four rows, each an identity of polynomials.
use Rattle.std.proofs.Common.{◌≡◌, ℕ, zero, suc, ◌+◌, ◌*◌, ◌<◌, ◌≤◌, [], ◌∷◌, ℤ, pos, ◌*ℤ◌, slice_index_or, refl, arith}
use Rattle.std.specs.Prelude.{if◌then◌else◌, nat_eq, nat_lt}
use Rattle.log_laws.specs.Sums.{int_sum_below}
use Rattle.energy_surface.specs.Program.Determinants.{past, determinant, with_row, with_column}
use Rattle.exact_lp.specs.Frames.{filled}
use Rattle.log_laws.proofs.Exports.{Expression, known, unknown, added, times, minus, identity}

-- ---- the same definitions over expressions
abbrev pub sum_of : ℕ → (ℕ → Expression) → Expression
sum_of zero f = known (pos 0)
sum_of (suc n) f = added (sum_of n f) (f n)

abbrev pub turned : ℕ → Expression → Expression
turned zero x = x
turned (suc j) x = minus (turned j x)

abbrev pub expanded : ℕ → (ℕ → ℕ → Expression) → Expression
expanded zero m = known (pos 1)
expanded (suc n) m = sum_of (suc n) (λ j. turned j (times (m 0 j) (expanded n (λ r c. m (r + 1) (past j c)))))

abbrev pub entry : ℕ → ℕ → Expression
entry r c = unknown (4 * r + c)

abbrev pub rowed : ℕ → (ℕ → Expression) → (ℕ → ℕ → Expression) → ℕ → ℕ → Expression
rowed k x m r c = if nat_eq r k then x c else m r c

abbrev pub columned : ℕ → (ℕ → Expression) → (ℕ → ℕ → Expression) → ℕ → ℕ → Expression
columned k x m r c = if nat_eq c k then x r else m r c

abbrev pub given : ℕ → Expression
given c = unknown (16 + c)

abbrev pub other : ℕ → Expression
other c = unknown (20 + c)

-- the numbers that the variables stand for: a matrix and two rows
abbrev pub read : (ℕ → ℕ → ℤ) → (ℕ → ℤ) → (ℕ → ℤ) → ℕ → ℤ
read m x y i =
    slice_index_or (m 0 0 ∷ m 0 1 ∷ m 0 2 ∷ m 0 3 ∷ m 1 0 ∷ m 1 1 ∷ m 1 2 ∷ m 1 3 ∷ m 2 0 ∷ m 2 1 ∷ m 2 2 ∷ m 2 3 ∷ m 3 0 ∷ m 3 1 ∷ m 3 2 ∷ m 3 3
    ∷ x 0 ∷ x 1 ∷ x 2 ∷ x 3 ∷ y 0 ∷ y 1 ∷ y 2 ∷ y 3 ∷ []) i (pos 0)

-- ---- filled matrices
abbrev filling : ℕ → ℕ → ℕ → Expression
filling n r c = if nat_lt r n then (if nat_lt c n then entry r c else known (pos 0)) else (if nat_eq r c then known (pos 1) else known (pos 0))

pub none : ℕ → ℤ
none i = pos 0

filled_one : (m : ℕ → ℕ → ℤ) → determinant 1 m ≡ determinant 4 (filled 1 m)
unfolding determinant int_sum_below
filled_one m = identity (read m none none) (expanded 1 entry) (expanded 4 (filling 1)) refl

filled_two : (m : ℕ → ℕ → ℤ) → determinant 2 m ≡ determinant 4 (filled 2 m)
unfolding determinant int_sum_below
filled_two m = identity (read m none none) (expanded 2 entry) (expanded 4 (filling 2)) refl

filled_three : (m : ℕ → ℕ → ℤ) → determinant 3 m ≡ determinant 4 (filled 3 m)
unfolding determinant int_sum_below
filled_three m = identity (read m none none) (expanded 3 entry) (expanded 4 (filling 3)) refl

filled_four : (m : ℕ → ℕ → ℤ) → determinant 4 m ≡ determinant 4 (filled 4 m)
unfolding determinant int_sum_below
filled_four m = refl

-- ---- one to four
pub by_count : (P : ℕ → Type 0) → P 1 → P 2 → P 3 → P 4 → (n : ℕ) → 1 ≤ n → n ≤ 4 → P n
by_count P a b c d zero h k = absurd (omega arith)
by_count P a b c d (suc zero) h k = a
by_count P a b c d (suc (suc zero)) h k = b
by_count P a b c d (suc (suc (suc zero))) h k = c
by_count P a b c d (suc (suc (suc (suc zero)))) h k = d
by_count P a b c d (suc (suc (suc (suc (suc n))))) h k = absurd (omega arith)

pub by_place : (P : ℕ → Type 0) → P 0 → P 1 → P 2 → P 3 → (k : ℕ) → k < 4 → P k
by_place P a b c d zero h = a
by_place P a b c d (suc zero) h = b
by_place P a b c d (suc (suc zero)) h = c
by_place P a b c d (suc (suc (suc zero))) h = d
by_place P a b c d (suc (suc (suc (suc k)))) h = absurd (omega arith)

pub filled-determinant : (n : ℕ) → 1 ≤ n → n ≤ 4 → (m : ℕ → ℕ → ℤ) → determinant n m ≡ determinant 4 (filled n m)
filled-determinant n h k m = by_count (λ n. determinant n m ≡ determinant 4 (filled n m)) (filled_one m) (filled_two m) (filled_three m) (filled_four m) n h k

-- ---- the rules
-- amounts make the row: Cramer
cramer_at_0 : (m : ℕ → ℕ → ℤ) (x : ℕ → ℤ) → int_sum_below 4 (λ k. determinant 4 (with_row k x m) *ℤ m k 0) ≡ determinant 4 m *ℤ x 0
unfolding determinant int_sum_below
cramer_at_0 m x = identity (read m x none) (sum_of 4 (λ k. times (expanded 4 (rowed k given entry)) (entry k 0))) (times (expanded 4 entry) (given 0)) refl

cramer_at_1 : (m : ℕ → ℕ → ℤ) (x : ℕ → ℤ) → int_sum_below 4 (λ k. determinant 4 (with_row k x m) *ℤ m k 1) ≡ determinant 4 m *ℤ x 1
unfolding determinant int_sum_below
cramer_at_1 m x = identity (read m x none) (sum_of 4 (λ k. times (expanded 4 (rowed k given entry)) (entry k 1))) (times (expanded 4 entry) (given 1)) refl

cramer_at_2 : (m : ℕ → ℕ → ℤ) (x : ℕ → ℤ) → int_sum_below 4 (λ k. determinant 4 (with_row k x m) *ℤ m k 2) ≡ determinant 4 m *ℤ x 2
unfolding determinant int_sum_below
cramer_at_2 m x = identity (read m x none) (sum_of 4 (λ k. times (expanded 4 (rowed k given entry)) (entry k 2))) (times (expanded 4 entry) (given 2)) refl

cramer_at_3 : (m : ℕ → ℕ → ℤ) (x : ℕ → ℤ) → int_sum_below 4 (λ k. determinant 4 (with_row k x m) *ℤ m k 3) ≡ determinant 4 m *ℤ x 3
unfolding determinant int_sum_below
cramer_at_3 m x = identity (read m x none) (sum_of 4 (λ k. times (expanded 4 (rowed k given entry)) (entry k 3))) (times (expanded 4 entry) (given 3)) refl

pub cramer : (i : ℕ) → i < 4 → (m : ℕ → ℕ → ℤ) (x : ℕ → ℤ) → int_sum_below 4 (λ k. determinant 4 (with_row k x m) *ℤ m k i) ≡ determinant 4 m *ℤ x i
cramer i h m x =
    by_place (λ i. int_sum_below 4 (λ k. determinant 4 (with_row k x m) *ℤ m k i) ≡ determinant 4 m *ℤ x i) (cramer_at_0 m x) (cramer_at_1 m x) (cramer_at_2 m x) (cramer_at_3 m x) i h

-- a plane goes through the costs of the rows: the same by columns
plane_at_0 : (m : ℕ → ℕ → ℤ) (x : ℕ → ℤ) → int_sum_below 4 (λ i. determinant 4 (with_column i x m) *ℤ m 0 i) ≡ determinant 4 m *ℤ x 0
unfolding determinant int_sum_below
plane_at_0 m x = identity (read m x none) (sum_of 4 (λ i. times (expanded 4 (columned i given entry)) (entry 0 i))) (times (expanded 4 entry) (given 0)) refl

plane_at_1 : (m : ℕ → ℕ → ℤ) (x : ℕ → ℤ) → int_sum_below 4 (λ i. determinant 4 (with_column i x m) *ℤ m 1 i) ≡ determinant 4 m *ℤ x 1
unfolding determinant int_sum_below
plane_at_1 m x = identity (read m x none) (sum_of 4 (λ i. times (expanded 4 (columned i given entry)) (entry 1 i))) (times (expanded 4 entry) (given 1)) refl

plane_at_2 : (m : ℕ → ℕ → ℤ) (x : ℕ → ℤ) → int_sum_below 4 (λ i. determinant 4 (with_column i x m) *ℤ m 2 i) ≡ determinant 4 m *ℤ x 2
unfolding determinant int_sum_below
plane_at_2 m x = identity (read m x none) (sum_of 4 (λ i. times (expanded 4 (columned i given entry)) (entry 2 i))) (times (expanded 4 entry) (given 2)) refl

plane_at_3 : (m : ℕ → ℕ → ℤ) (x : ℕ → ℤ) → int_sum_below 4 (λ i. determinant 4 (with_column i x m) *ℤ m 3 i) ≡ determinant 4 m *ℤ x 3
unfolding determinant int_sum_below
plane_at_3 m x = identity (read m x none) (sum_of 4 (λ i. times (expanded 4 (columned i given entry)) (entry 3 i))) (times (expanded 4 entry) (given 3)) refl

pub plane_through : (k : ℕ) → k < 4 → (m : ℕ → ℕ → ℤ) (x : ℕ → ℤ) → int_sum_below 4 (λ i. determinant 4 (with_column i x m) *ℤ m k i) ≡ determinant 4 m *ℤ x k
plane_through k h m x =
    by_place (λ k. int_sum_below 4 (λ i. determinant 4 (with_column i x m) *ℤ m k i) ≡ determinant 4 m *ℤ x k) (plane_at_0 m x) (plane_at_1 m x) (plane_at_2 m x) (plane_at_3 m x) k h
