-- The plane of a basis lies nearly at most at the energy of a column that has no negative price.
use Rattle.std.proofs.Common.{◌≡◌, ℕ, ◌^◌, ◌<◌, ◌≤◌, List, ℤ, pos, ◌+ℤ◌, ◌*ℤ◌, ◌≤ℤ◌, ◌<ℤ◌, slice_index, refl, ap, arith, lit<}
use Rattle.std.specs.List.{All}
use Rattle.std.proofs.lemmas.Int.{ints}
use Rattle.std.proofs.lemmas.List.Elements.{All-from_get_or}
use Rattle.log_laws.specs.Sums.{int_sum_below}
use Rattle.log_laws.specs.Whole.{floor_over}
use Rattle.log_laws.proofs.Exports.{floor_over-le, sum-same}
use Rattle.case_types.specs.declared.cases.Case.{Case}
use Rattle.case_types.specs.declared.rounds.Column.{Column}
use Rattle.case_types.specs.Arithmetic.Bounds.{plane_at, plane_times, potential}
use Rattle.case_types.specs.Grid.Columns.{point_of, plane_at_point}
use Rattle.energy_surface.specs.Columns.{IsColumn}
use Rattle.energy_surface.specs.Program.Bases.{no_column, column_at, system, costs_of, IsBasis}
use Rattle.energy_surface.specs.Program.Pivots.{price_of, IsOptimal}
use Rattle.energy_surface.specs.Program.Planes.{plane_entry, plane_of}
use Rattle.energy_surface.specs.Program.Solutions.{size}
use Rattle.energy_surface.specs.Rounds.{quarter_of}
use Rattle.energy_surface.specs.Surfaces.{Surface}
use Rattle.exact_lp.proofs.AfterPivot.{spans_above}
use Rattle.exact_lp.proofs.DeterminantRules.{by_place}
use Rattle.exact_lp.proofs.KeptColumns.{cost_near_up}
use Rattle.exact_lp.proofs.PlanesUnderCosts.{plane_under_cost}
use Rattle.std.proofs.lemmas.Bool.{lt-ltb}

-- ---- the plane at parts
entry_of_plane : (n : ℕ) (cols : List Column) (at : List ℕ) → n ≤ 4 → (i : ℕ) → i < n → potential (plane_of n cols at) i ≡ plane_entry n cols at i
entry_of_plane n cols at high i h =
    by_place (λ i. i < n → potential (plane_of n cols at) i ≡ plane_entry n cols at i)
    (λ h. rw (lt-ltb 0 n h) refl) (λ h. rw (lt-ltb 1 n h) refl) (λ h. rw (lt-ltb 2 n h) refl) (λ h. rw (lt-ltb 3 n h) refl) i (omega (arith, h, high)) h

-- the floors of the slopes, weighed
abbrev pub plane_weighed : ℕ → List Column → List ℕ → (ℕ → ℕ) → ℤ
plane_weighed n cols at x = int_sum_below n (λ i. plane_entry n cols at i *ℤ pos (x i))

pub plane_times_is : (n : ℕ) (cols : List Column) (at : List ℕ) (x : List ℕ) → n ≤ 4 → plane_times n (plane_of n cols at) x ≡ plane_weighed n cols at (slice_index x)
unfolding plane_times
plane_times_is n cols at x high =
    sum-same n (λ i. potential (plane_of n cols at) i *ℤ pos (slice_index x i)) (λ i. plane_entry n cols at i *ℤ pos (slice_index x i))
    (λ i h. ap (λ (t : ℤ). t *ℤ pos (slice_index x i)) (entry_of_plane n cols at high i h))

pub plane_at_is : (n : ℕ) (cols : List Column) (at : List ℕ) (x : List ℕ) (sum : ℕ) → n ≤ 4 →
    plane_at n (plane_of n cols at) x sum ≡ floor_over (plane_weighed n cols at (slice_index x)) sum
unfolding plane_at
plane_at_is n cols at x sum high = ap (λ (t : ℤ). floor_over t sum) (plane_times_is n cols at x high)

-- ---- at a column
under_up : (f t cost up : ℤ) → (f *ℤ pos (2 ^ 20)) ≤ℤ t → t ≤ℤ (pos (2 ^ 30) *ℤ cost) → (cost *ℤ pos (2 ^ 10)) <ℤ (up +ℤ pos (2 ^ 10)) → f <ℤ (up +ℤ pos (2 ^ 10))
under_up f t cost up h k l = omega (arith, ints, h, k, l)

-- where the price isn't negative the plane lies at most at the cost
pub plane_near_column : (s : Surface) (n : ℕ) (cols : List Column) (at : List ℕ) (col : Column) → s.count ≡ n → n ≤ 4 → 0 < size n (system cols at) →
    IsColumn s col → pos 0 ≤ℤ price_of n cols at col → plane_at_point s.count (plane_of n cols at) (point_of col) <ℤ (col.up +ℤ pos (2 ^ 10))
plane_near_column s n cols at col count high spans good up =
    let t = plane_weighed n cols at (slice_index col.comp) in
    rw (count, plane_at_is n cols at col.comp (2 ^ 20) high)
    (under_up (floor_over t (2 ^ 20)) t col.cost col.up (floor_over-le t (2 ^ 20) (lit< tt))
    (plane_under_cost n (system cols at) (costs_of cols at) (slice_index col.comp) col.cost spans up) (cost_near_up s col good))

within_quarter : (f up : ℤ) (tol : ℕ) → 128 ≤ tol → f <ℤ (up +ℤ pos (2 ^ 10)) → f ≤ℤ (up +ℤ quarter_of tol)
within_quarter f up tol h k = omega (arith, ints, h, k)

-- at an optimum no column lies below the plane by more than a quarter of the tolerance
pub none_deeper : (s : Surface) (c : Case) (tol : ℕ) (cols : List Column) (at : List ℕ) → s.count ≡ c.n → 128 ≤ tol → IsBasis c cols at → IsOptimal c.n cols at →
    All (λ (col : Column). IsColumn s col) cols →
    All (λ (col : Column). plane_at_point s.count (plane_of c.n cols at) (point_of col) ≤ℤ (col.up +ℤ quarter_of tol)) cols
none_deeper s c tol cols at count fine basis optimal good =
    All-from_get_or (λ (col : Column). plane_at_point s.count (plane_of c.n cols at) (point_of col) ≤ℤ (col.up +ℤ quarter_of tol)) cols no_column
    (λ j h. within_quarter _ (column_at cols j).up tol fine
    (plane_near_column s c.n cols at (column_at cols j) count c.few (spans_above c cols at basis) (good j no_column h) (optimal j h)))
