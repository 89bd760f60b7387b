-- What is kept of a basis of four columns: the size of its determinant, and for each place the row of signed minors.
use Rattle.std.specs.Prelude.{if◌then◌else◌, ◌⊎◌, ◌≤◌, ◌<ℤ◌, ◌≤ℤ◌, nat_eq, nat_lt, ℕ, zero, suc, ◌*◌, ◌<◌, ◌≡◌, ◌+ℤ◌, ◌-ℤ◌, List, [], ◌∷◌, ℤ, pos, ◌*ℤ◌, slice_index, slice_index_or, unsigned_abs}
use Rattle.log_laws.specs.Sums.{sum_below, int_sum_below}
use Rattle.energy_surface.specs.Program.Determinants.{determinant, with_row}
use Rattle.case_types.specs.declared.rounds.Column.{Column}
use Rattle.energy_surface.specs.Program.Bases.{column_at}
use Rattle.energy_surface.specs.Program.Solutions.{signed_by}

-- the sum of the products of two rows
unfoldable pub along : List ℤ → (ℕ → ℤ) → ℤ
along a x = int_sum_below 4 (λ i. slice_index_or a i (pos 0) *ℤ x i)

-- the sum of the sizes of those products
abbrev pub weight : List ℤ → List ℕ → ℕ
weight a x = sum_below 4 (λ i. unsigned_abs (slice_index_or a i (pos 0)) * slice_index x i)

-- a list as a row
abbrev pub row_of : List ℕ → ℕ → ℤ
row_of b i = pos (slice_index b i)

-- four rows
abbrev pub four_rows : (ℕ → ℤ) → (ℕ → ℤ) → (ℕ → ℤ) → (ℕ → ℤ) → ℕ → ℕ → ℤ
four_rows a b c d zero = a
four_rows a b c d (suc zero) = b
four_rows a b c d (suc (suc zero)) = c
four_rows a b c d (suc (suc (suc k))) = d

-- along any row it is the determinant with that row above these three
abbrev pub IsNormal : List ℤ → (ℕ → ℤ) → (ℕ → ℤ) → (ℕ → ℤ) → Type 0
IsNormal a b c d = (x : ℕ → ℤ) → along a x ≡ determinant 4 (four_rows x b c d)

-- the determinant of three rows of three, by the first row
abbrev pub volume_of : ℕ → ℕ → ℕ → ℕ → ℕ → ℕ → ℕ → ℕ → ℕ → ℤ
volume_of b0 b1 b2 c0 c1 c2 d0 d1 d2 =
    (pos (c1 * d2) -ℤ pos (c2 * d1)) *ℤ pos b0 +ℤ (pos (c2 * d0) -ℤ pos (c0 * d2)) *ℤ pos b1 +ℤ (pos (c0 * d1) -ℤ pos (c1 * d0)) *ℤ pos b2

-- four lists as rows
abbrev pub rows_in : List ℕ → List ℕ → List ℕ → List ℕ → ℕ → ℕ → ℤ
rows_in a b c d = four_rows (row_of a) (row_of b) (row_of c) (row_of d)

-- the size of a determinant, and for each row the row of its minors, with the sign of the determinant taken out
pub record IsFrame (m : ℕ → ℕ → ℤ) (size : ℕ) (a b c d : List ℤ) : Type 0 where
  pub size_is : size ≡ unsigned_abs (determinant 4 m)
  pub first : (x : ℕ → ℤ) → along a x ≡ signed_by (determinant 4 m) (determinant 4 (with_row 0 x m))
  pub second : (x : ℕ → ℤ) → along b x ≡ signed_by (determinant 4 m) (determinant 4 (with_row 1 x m))
  pub third : (x : ℕ → ℤ) → along c x ≡ signed_by (determinant 4 m) (determinant 4 (with_row 2 x m))
  pub fourth : (x : ℕ → ℤ) → along d x ≡ signed_by (determinant 4 m) (determinant 4 (with_row 3 x m))

-- ---- the first n rows and columns, filled up to four by rows of the unit
abbrev pub filled : ℕ → (ℕ → ℕ → ℤ) → ℕ → ℕ → ℤ
filled n m r c = if nat_lt r n then (if nat_lt c n then m r c else pos 0) else (if nat_eq r c then pos 1 else pos 0)

abbrev pub masked : ℕ → (ℕ → ℤ) → ℕ → ℤ
masked n x i = if nat_lt i n then x i else pos 0

-- ---- points as lists
abbrev pub live : ℕ → List ℕ → ℕ → ℕ
live n x i = if nat_lt i n then slice_index x i else 0

-- the parts of the first n components, and none of the others
abbrev pub live_parts : ℕ → List ℕ → List ℕ
live_parts n x = live n x 0 ∷ live n x 1 ∷ live n x 2 ∷ live n x 3 ∷ []

abbrev pub unit_parts : ℕ → List ℕ
unit_parts k =
    (if nat_eq k 0 then 1 else 0) ∷ (if nat_eq k 1 then 1 else 0) ∷ (if nat_eq k 2 then 1 else 0) ∷ (if nat_eq k 3 then 1 else 0) ∷ []

-- row k of the system of a basis, filled up
abbrev pub row_parts : ℕ → List Column → List ℕ → ℕ → List ℕ
row_parts n cols at k = if nat_lt k n then live_parts n (column_at cols (slice_index at k)).comp else unit_parts k

-- the costs of the columns of a basis, and 0 past them
abbrev pub live_cost : ℕ → List Column → List ℕ → ℕ → ℤ
live_cost n cols at k = if nat_lt k n then (column_at cols (slice_index at k)).cost else pos 0

abbrev pub live_costs : ℕ → List Column → List ℕ → List ℤ
live_costs n cols at = live_cost n cols at 0 ∷ live_cost n cols at 1 ∷ live_cost n cols at 2 ∷ live_cost n cols at 3 ∷ []

-- what the amounts for a point cost
abbrev pub paid : List ℤ → List ℤ → List ℤ → List ℤ → List ℤ → (ℕ → ℤ) → ℤ
paid a b c d costs x =
    along a x *ℤ slice_index_or costs 0 (pos 0) +ℤ along b x *ℤ slice_index_or costs 1 (pos 0) +ℤ along c x *ℤ slice_index_or costs 2 (pos 0) +ℤ along d x *ℤ slice_index_or costs 3 (pos 0)

-- ---- amounts as a list
abbrev pub along_all : List ℤ → List ℤ → List ℤ → List ℤ → (ℕ → ℤ) → List ℤ
along_all a b c d x = along a x ∷ along b x ∷ along c x ∷ along d x ∷ []

abbrev pub entry : List ℤ → ℕ → ℤ
entry u k = slice_index_or u k (pos 0)

-- the place k has a lesser ratio than b, or the same and a column that is no later
abbrev pub IsNoLater : (ℕ → ℤ) → (ℕ → ℤ) → (ℕ → ℕ) → ℕ → ℕ → Type 0
IsNoLater z x at k b = ((z k *ℤ x b) <ℤ (z b *ℤ x k)) ⊎ ((z k *ℤ x b) ≡ (z b *ℤ x k)) × (at k ≤ at b)

-- of the places below j that take part, best is the first by that order; limit stands for none
abbrev pub IsBest : (ℕ → ℤ) → (ℕ → ℤ) → (ℕ → ℕ) → ℕ → ℕ → Type 0
IsBest z x at j best = (pos 0 <ℤ x best) × (best < j) × ((i : ℕ) → i < j → pos 0 <ℤ x i → IsNoLater z x at best i)

abbrev pub IsBestSoFar : (ℕ → ℤ) → (ℕ → ℤ) → (ℕ → ℕ) → ℕ → ℕ → ℕ → Type 0
IsBestSoFar z x at limit j best = ((best ≡ limit) × ((i : ℕ) → i < j → x i ≤ℤ pos 0)) ⊎ IsBest z x at j best
