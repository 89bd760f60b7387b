-- Determinants of whole numbers.
use Rattle.std.specs.Prelude.{ℕ, zero, suc, ◌+◌, if◌then◌else◌, nat_lt, nat_eq, ℤ, pos, neg_ℤ, ◌*ℤ◌}
use Rattle.log_laws.specs.Sums.{int_sum_below}

-- the numbers from 0 without j
abbrev pub past : ℕ → ℕ → ℕ
past j c = if nat_lt c j then c else (c + 1)

-- x, or its opposite: with the sign + - + - at the places 0 1 2 3
abbrev pub alternating : ℕ → ℤ → ℤ
alternating zero x = x
alternating (suc j) x = neg_ℤ (alternating j x)

-- the determinant of the first n rows and columns, by the first row; m r c is the number in row r and column c
unfoldable pub determinant : ℕ → (ℕ → ℕ → ℤ) → ℤ
determinant zero m = pos 1
determinant (suc n) m = int_sum_below (suc n) (λ j. alternating j (m 0 j *ℤ determinant n (λ r c. m (r + 1) (past j c))))

-- the matrix with the row k replaced
abbrev pub with_row : ℕ → (ℕ → ℤ) → (ℕ → ℕ → ℤ) → ℕ → ℕ → ℤ
with_row k x m r c = if nat_eq r k then x c else m r c

-- the matrix with the column k replaced
abbrev pub with_column : ℕ → (ℕ → ℤ) → (ℕ → ℕ → ℤ) → ℕ → ℕ → ℤ
with_column k x m r c = if nat_eq c k then x r else m r c
