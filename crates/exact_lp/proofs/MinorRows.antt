-- The row of signed minors along a row is the determinant.
use Rattle.std.proofs.Common.{◌≡◌, ℕ, zero, suc, ◌+◌, ◌*◌, ◌^◌, ◌<◌, ◌≤◌, List, [], ◌∷◌, ℤ, pos, negsuc, neg_ℤ, ◌<ℤ◌, ◌≤ℤ◌, arith, unsigned_abs, IsTrue, slice_index, slice_index_or, refl}
use Rattle.std.proofs.lemmas.Int.{ints}
use Rattle.case_types.specs.Ranges.{is_each_below}
use Rattle.log_laws.specs.Sums.{sum_below, int_sum_below}
use Rattle.energy_surface.specs.Program.Solutions.{signed_by}
use Rattle.energy_surface.specs.Program.Determinants.{determinant, with_row}
use Rattle.exact_lp.specs.Frames.{along, weight, row_of, four_rows, volume_of}
use Rattle.log_laws.proofs.Exports.{Expression, unknown, added, times, minus, identity}
use Rattle.exact_lp.proofs.DeterminantRules.{expanded, entry, given, rowed, sum_of, read, none}
use Rattle.exact_lp.proofs.MachineNumbers.{entry_small, product_small}

abbrev pub volume_at : ℕ → ℕ → ℕ → Expression
volume_at i j k =
    added (added (times (added (times (entry 2 j) (entry 3 k)) (minus (times (entry 2 k) (entry 3 j)))) (entry 1 i))
    (times (added (times (entry 2 k) (entry 3 i)) (minus (times (entry 2 i) (entry 3 k)))) (entry 1 j)))
    (times (added (times (entry 2 i) (entry 3 j)) (minus (times (entry 2 j) (entry 3 i)))) (entry 1 k))

-- the determinant of the rows b, c, d at the columns i, j, k
abbrev pub volumes : ℕ → ℕ → ℕ → List ℕ → List ℕ → List ℕ → ℤ
volumes i j k b c d =
    volume_of (slice_index b i) (slice_index b j) (slice_index b k) (slice_index c i) (slice_index c j) (slice_index c k) (slice_index d i) (slice_index d j) (slice_index d k)

pub normal_is : (b c d : List ℕ) (x : ℕ → ℤ) →
    along (volumes 1 2 3 b c d ∷ volumes 2 0 3 b c d ∷ volumes 0 1 3 b c d ∷ volumes 1 0 2 b c d ∷ []) x
    ≡ determinant 4 (four_rows x (row_of b) (row_of c) (row_of d))
unfolding along determinant int_sum_below
normal_is b c d x =
    identity (read (four_rows x (row_of b) (row_of c) (row_of d)) none none)
    (added (added (added (added (sum_of 0 (entry 0)) (times (volume_at 1 2 3) (entry 0 0))) (times (volume_at 2 0 3) (entry 0 1))) (times (volume_at 0 1 3) (entry 0 2))) (times (volume_at 1 0 2) (entry 0 3)))
    (expanded 4 entry) refl

-- the row with all signs turned
abbrev pub turned_row : List ℤ → List ℤ
turned_row a =
    neg_ℤ (slice_index_or a 0 (pos 0)) ∷ neg_ℤ (slice_index_or a 1 (pos 0)) ∷ neg_ℤ (slice_index_or a 2 (pos 0)) ∷ neg_ℤ (slice_index_or a 3 (pos 0)) ∷ []

abbrev values : List ℤ → ℕ → ℤ
values l i = slice_index_or l i (pos 0)

pub along_turned : (a : List ℤ) (x : ℕ → ℤ) → along (turned_row a) x ≡ neg_ℤ (along a x)
unfolding along int_sum_below
along_turned a x =
    identity (values (slice_index_or a 0 (pos 0) ∷ slice_index_or a 1 (pos 0) ∷ slice_index_or a 2 (pos 0) ∷ slice_index_or a 3 (pos 0) ∷ x 0 ∷ x 1 ∷ x 2 ∷ x 3 ∷ []))
    (sum_of 4 (λ i. times (minus (unknown i)) (unknown (4 + i)))) (minus (sum_of 4 (λ i. times (unknown i) (unknown (4 + i))))) refl

-- ---- the place of the row
abbrev four : (ℕ → Expression) → (ℕ → Expression) → (ℕ → Expression) → (ℕ → Expression) → ℕ → ℕ → Expression
four a b c d zero = a
four a b c d (suc zero) = b
four a b c d (suc (suc zero)) = c
four a b c d (suc (suc (suc k))) = d

pub in_first : (a b c d x : ℕ → ℤ) → determinant 4 (four_rows x b c d) ≡ determinant 4 (with_row 0 x (four_rows a b c d))
unfolding determinant int_sum_below
in_first a b c d x =
    identity (read (four_rows a b c d) x none) (expanded 4 (four given (entry 1) (entry 2) (entry 3))) (expanded 4 (rowed 0 given entry)) refl

pub in_second : (a b c d x : ℕ → ℤ) → determinant 4 (four_rows x c a d) ≡ determinant 4 (with_row 1 x (four_rows a b c d))
unfolding determinant int_sum_below
in_second a b c d x =
    identity (read (four_rows a b c d) x none) (expanded 4 (four given (entry 2) (entry 0) (entry 3))) (expanded 4 (rowed 1 given entry)) refl

pub in_third : (a b c d x : ℕ → ℤ) → determinant 4 (four_rows x a b d) ≡ determinant 4 (with_row 2 x (four_rows a b c d))
unfolding determinant int_sum_below
in_third a b c d x =
    identity (read (four_rows a b c d) x none) (expanded 4 (four given (entry 0) (entry 1) (entry 3))) (expanded 4 (rowed 2 given entry)) refl

pub in_fourth : (a b c d x : ℕ → ℤ) → determinant 4 (four_rows x b a c) ≡ determinant 4 (with_row 3 x (four_rows a b c d))
unfolding determinant int_sum_below
in_fourth a b c d x =
    identity (read (four_rows a b c d) x none) (expanded 4 (four given (entry 1) (entry 0) (entry 2))) (expanded 4 (rowed 3 given entry)) refl

-- ---- signs
pub signed_down : (d y : ℤ) → d <ℤ pos 0 → signed_by d y ≡ neg_ℤ y
signed_down (pos d) y h = absurd (omega (arith, ints, h))
signed_down (negsuc d) y h = refl

pub signed_up : (d y : ℤ) → pos 0 ≤ℤ d → signed_by d y ≡ y
signed_up (pos d) y h = refl
signed_up (negsuc d) y h = absurd (omega (arith, ints, h))

-- the weight of small minors and of a point
pub weight_small : (a : List ℤ) (x : List ℕ) → IsTrue (is_each_below 4 a (2 ^ 60 + 1)) → sum_below 4 (slice_index x) ≤ 2 ^ 20 → weight a x ≤ 2 ^ 80
weight_small a x t light =
    omega (arith, part 0 (omega arith), part 1 (omega arith), part 2 (omega arith), part 3 (omega arith), light)
  where
    part : (i : ℕ) → i < 4 → unsigned_abs (slice_index_or a i (pos 0)) * slice_index x i ≤ 2 ^ 60 * slice_index x i
    part i h = product_small (unsigned_abs (slice_index_or a i (pos 0))) (slice_index x i) (2 ^ 60) (omega (arith, entry_small a (2 ^ 60 + 1) i h t))
