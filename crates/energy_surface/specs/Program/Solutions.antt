-- Solutions of a system of n columns, as whole numbers over the size of its determinant; row k of the matrix is column k.
use Rattle.std.specs.Prelude.{ℕ, ℤ, pos, negsuc, neg_ℤ, ◌-ℤ◌, ◌*ℤ◌, unsigned_abs}
use Rattle.log_laws.specs.Sums.{int_sum_below}
use Rattle.energy_surface.specs.Program.Determinants.{determinant, with_row, with_column}

-- x, or its opposite where d is negative
abbrev pub signed_by : ℤ → ℤ → ℤ
signed_by (pos n) x = x
signed_by (negsuc n) x = neg_ℤ x

-- what amounts and slopes are counted in
abbrev pub size : ℕ → (ℕ → ℕ → ℤ) → ℕ
size n m = unsigned_abs (determinant n m)

-- how much of column k makes x, together with the others: Cramer's rule
abbrev pub amount : ℕ → (ℕ → ℕ → ℤ) → (ℕ → ℤ) → ℕ → ℤ
amount n m x k = signed_by (determinant n m) (determinant n (with_row k x m))

-- the plane through the costs of the columns, at component i
abbrev pub slope : ℕ → (ℕ → ℕ → ℤ) → (ℕ → ℤ) → ℕ → ℤ
slope n m costs i = signed_by (determinant n m) (determinant n (with_column i costs m))

-- how far a cost lies above that plane at x: the reduced cost, over the size
abbrev pub price : ℕ → (ℕ → ℕ → ℤ) → (ℕ → ℤ) → (ℕ → ℤ) → ℤ → ℤ
price n m costs x cost = pos (size n m) *ℤ cost -ℤ int_sum_below n (λ i. slope n m costs i *ℤ x i)
