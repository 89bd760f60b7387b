-- Systems of one to four columns: amounts make their row, slopes go through the costs, and what an exchange does.
use Rattle.std.proofs.Common.{◌≡◌, ℕ, suc, ◌<◌, ◌≤◌, Bool, true, false, ℤ, pos, negsuc, neg_ℤ, ◌*ℤ◌, unsigned_abs, refl, ap, sym, ◌∙◌, arith}
use Rattle.std.specs.Prelude.{nat_eq, nat_lt}
use Rattle.std.proofs.Math.Path.{fun_ext}
use Rattle.std.proofs.lemmas.Int.{ints}
use Rattle.std.proofs.lemmas.Bool.Decides.{nat_tests}
use Rattle.std.proofs.lemmas.Bool.{lt-ltb, le-ltb, eqb-true, ne_eqb}
use Rattle.log_laws.proofs.Exports.{neg-mul, sum-same, sum-neg, times_nothing}
use Rattle.log_laws.specs.Sums.{int_sum_below}
use Rattle.energy_surface.specs.Program.Determinants.{determinant, with_row, with_column}
use Rattle.energy_surface.specs.Program.Solutions.{signed_by, size, amount, slope}
use Rattle.exact_lp.specs.Frames.{filled, masked}
use Rattle.exact_lp.proofs.DeterminantRules.{filled-determinant, cramer, plane_through}
use Rattle.exact_lp.proofs.LiveSums.{sum-cut}

-- ---- matrices that are the same entry by entry
pub determinant-same : (n : ℕ) (m p : ℕ → ℕ → ℤ) → ((r c : ℕ) → m r c ≡ p r c) → determinant n m ≡ determinant n p
determinant-same n m p h = ap (determinant n) (fun_ext (λ r. fun_ext (λ c. h r c)))

-- ---- filled matrices
row_filled : (n : ℕ) (m : ℕ → ℕ → ℤ) (x : ℕ → ℤ) (k : ℕ) → k < n → (r c : ℕ) (b : Bool) → nat_eq r k ≡ b →
    filled n (with_row k x m) r c ≡ with_row k (masked n x) (filled n m) r c
row_filled n m x k h r c true e = rw (e, lt-ltb r n (omega (arith, h, eqb-true r k e))) refl
row_filled n m x k h r c false e = rw e refl

pub rows_filled : (n : ℕ) (m : ℕ → ℕ → ℤ) (x : ℕ → ℤ) (k : ℕ) → k < n → filled n (with_row k x m) ≡ with_row k (masked n x) (filled n m)
rows_filled n m x k h = fun_ext (λ r. fun_ext (λ c. row_filled n m x k h r c (nat_eq r k) refl))

pub with_row-filled : (n : ℕ) → 1 ≤ n → n ≤ 4 → (m : ℕ → ℕ → ℤ) (x : ℕ → ℤ) (k : ℕ) → k < n →
    determinant n (with_row k x m) ≡ determinant 4 (with_row k (masked n x) (filled n m))
with_row-filled n low high m x k h =
    filled-determinant n low high (with_row k x m)
    ∙ determinant-same 4 (filled n (with_row k x m)) (with_row k (masked n x) (filled n m)) (λ r c. row_filled n m x k h r c (nat_eq r k) refl)

column_filled : (n : ℕ) (m : ℕ → ℕ → ℤ) (x : ℕ → ℤ) (i : ℕ) → i < n → (r c : ℕ) (b d : Bool) → nat_lt r n ≡ b → nat_eq c i ≡ d →
    filled n (with_column i x m) r c ≡ with_column i (masked n x) (filled n m) r c
column_filled n m x i h r c true true e f = rw (e, f, lt-ltb c n (omega (arith, h, eqb-true c i f))) refl
column_filled n m x i h r c true false e f = rw (e, f) refl
column_filled n m x i h r c false true e f = rw (e, f, ne_eqb r c (λ g. absurd (outside_of (omega (arith, h, g, eqb-true c i f)) e))) refl
  where
    outside_of : r < n → nat_lt r n ≡ false → ⊥
    outside_of h e = grind (arith, nat_tests)
column_filled n m x i h r c false false e f = rw (e, f) refl

pub with_column-filled : (n : ℕ) → 1 ≤ n → n ≤ 4 → (m : ℕ → ℕ → ℤ) (x : ℕ → ℤ) (i : ℕ) → i < n →
    determinant n (with_column i x m) ≡ determinant 4 (with_column i (masked n x) (filled n m))
with_column-filled n low high m x i h =
    filled-determinant n low high (with_column i x m)
    ∙ determinant-same 4 (filled n (with_column i x m)) (with_column i (masked n x) (filled n m)) (λ r c. column_filled n m x i h r c (nat_lt r n) (nat_eq c i) refl refl)

-- entries of filled matrices
entry_inside : (n : ℕ) (m : ℕ → ℕ → ℤ) (r c : ℕ) → r < n → c < n → filled n m r c ≡ m r c
entry_inside n m r c h k = rw (lt-ltb r n h, lt-ltb c n k) refl

entry_below : (n : ℕ) (m : ℕ → ℕ → ℤ) (r c : ℕ) → n ≤ r → c < n → filled n m r c ≡ pos 0
entry_below n m r c h k = rw (le-ltb r n h, ne_eqb r c (λ e. absurd (omega (arith, h, k, e)))) refl

entry_beside : (n : ℕ) (m : ℕ → ℕ → ℤ) (r c : ℕ) → r < n → n ≤ c → filled n m r c ≡ pos 0
entry_beside n m r c h k = rw (lt-ltb r n h, le-ltb c n k) refl

masked_inside : (n : ℕ) (x : ℕ → ℤ) (i : ℕ) → i < n → masked n x i ≡ x i
masked_inside n x i h = rw (lt-ltb i n h) refl

-- ---- Cramer, for one to four
pub rows_make : (n : ℕ) → 1 ≤ n → n ≤ 4 → (m : ℕ → ℕ → ℤ) (x : ℕ → ℤ) (i : ℕ) → i < n →
    int_sum_below n (λ k. determinant n (with_row k x m) *ℤ m k i) ≡ determinant n m *ℤ x i
rows_make n low high m x i h =
    sym (sum-cut n low high (λ k. determinant 4 (with_row k (masked n x) (filled n m)) *ℤ filled n m k i) (λ k. determinant n (with_row k x m) *ℤ m k i)
    (λ k g. rw (with_row-filled n low high m x k g, entry_inside n m k i g h) refl)
    (λ k g _. rw (entry_below n m k i g h) (times_nothing (determinant 4 (with_row k (masked n x) (filled n m))))))
    ∙ cramer i (omega (arith, h, high)) (filled n m) (masked n x)
    ∙ rw (← filled-determinant n low high m, masked_inside n x i h) refl

pub columns_meet : (n : ℕ) → 1 ≤ n → n ≤ 4 → (m : ℕ → ℕ → ℤ) (costs : ℕ → ℤ) (k : ℕ) → k < n →
    int_sum_below n (λ i. determinant n (with_column i costs m) *ℤ m k i) ≡ determinant n m *ℤ costs k
columns_meet n low high m x k h =
    sym (sum-cut n low high (λ i. determinant 4 (with_column i (masked n x) (filled n m)) *ℤ filled n m k i) (λ i. determinant n (with_column i x m) *ℤ m k i)
    (λ i g. rw (with_column-filled n low high m x i g, entry_inside n m k i h g) refl)
    (λ i g _. rw (entry_beside n m k i h g) (times_nothing (determinant 4 (with_column i (masked n x) (filled n m))))))
    ∙ plane_through k (omega (arith, h, high)) (filled n m) (masked n x)
    ∙ rw (← filled-determinant n low high m, masked_inside n x k h) refl

-- ---- with the sign of the determinant taken out
signed-same : (n : ℕ) (d : ℤ) (f : ℕ → ℤ) (m : ℕ → ℤ) (t : ℤ) → int_sum_below n (λ k. f k *ℤ m k) ≡ d *ℤ t →
    int_sum_below n (λ k. signed_by d (f k) *ℤ m k) ≡ pos (unsigned_abs d) *ℤ t
signed-same n (pos d) f m t h = h
signed-same n (negsuc d) f m t h =
    sum-same n (λ k. neg_ℤ (f k) *ℤ m k) (λ k. neg_ℤ (f k *ℤ m k)) (λ k _. neg-mul (f k) (m k))
    ∙ sum-neg n (λ k. f k *ℤ m k) ∙ ap neg_ℤ h ∙ turned d t
  where
    turned : (d : ℕ) (t : ℤ) → neg_ℤ (negsuc d *ℤ t) ≡ pos (suc d) *ℤ t
    turned d t = omega (arith, ints)

-- the amounts of the columns make the row
pub amounts_make : (n : ℕ) → 1 ≤ n → n ≤ 4 → (m : ℕ → ℕ → ℤ) (x : ℕ → ℤ) (i : ℕ) → i < n →
    int_sum_below n (λ k. amount n m x k *ℤ m k i) ≡ pos (size n m) *ℤ x i
amounts_make n low high m x i h =
    signed-same n (determinant n m) (λ k. determinant n (with_row k x m)) (λ k. m k i) (x i) (rows_make n low high m x i h)

-- the plane goes through the cost of each column
pub slopes_meet : (n : ℕ) → 1 ≤ n → n ≤ 4 → (m : ℕ → ℕ → ℤ) (costs : ℕ → ℤ) (k : ℕ) → k < n →
    int_sum_below n (λ i. slope n m costs i *ℤ m k i) ≡ pos (size n m) *ℤ costs k
slopes_meet n low high m costs k h =
    signed-same n (determinant n m) (λ i. determinant n (with_column i costs m)) (m k) (costs k) (columns_meet n low high m costs k h)
