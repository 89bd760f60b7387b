-- Pivots in a row lead from a basis to a basis, and a basis stays one while columns are kept.
use Rattle.std.proofs.Common.{◌≡◌, ℕ, zero, suc, ◌<◌, List, [], ◌∷◌, ◌++◌, length, slice_set, refl, ◌∙◌, arith, ◌≤◌, ℤ, slice_index, ap, sym}
use Rattle.std.proofs.lemmas.List.{length-set, length-append}
use Rattle.case_types.specs.declared.cases.Case.{Case}
use Rattle.case_types.specs.declared.pivots.Pivot.{Pivot}
use Rattle.case_types.specs.declared.rounds.Column.{Column}
use Rattle.energy_surface.specs.Program.Bases.{column_at, composition, system, feed_of, IsBasis}
use Rattle.energy_surface.specs.Program.Pivots.{IsEntering, IsLeaving, ArePivots}
use Rattle.energy_surface.specs.Program.Solutions.{amount}
use Rattle.std.specs.Prelude.{nat_eq, nat_lt}
use Rattle.energy_surface.specs.Program.Determinants.{determinant, with_row}
use Rattle.exact_lp.specs.Frames.{filled}
use Rattle.exact_lp.proofs.DeterminantRules.{filled-determinant}
use Rattle.exact_lp.proofs.Systems.{determinant-same}
use Rattle.exact_lp.proofs.StartBasis.{filled_same}
use Rattle.exact_lp.proofs.AfterPivot.{pivot_keeps}
use Rattle.exact_lp.proofs.LiveParts.{with_same}

-- one pivot more
pub pivots-push : (c : Case) (kept : List Column) (at mid : List ℕ) (vs : List Pivot) (v : Pivot) → ArePivots c kept at vs mid →
    IsEntering c.n kept mid v.enter → IsLeaving c kept mid v.enter v.leave → ArePivots c kept at (vs ++ v ∷ []) (slice_set mid v.leave v.enter)
unfolding ArePivots
pivots-push c kept at mid [] v e cheaper leaves = rw e (cheaper, leaves, refl)
pivots-push c kept at mid (w ∷ vs) v p cheaper leaves = (p.0, p.1, pivots-push c kept (slice_set at w.leave w.enter) mid vs v p.2 cheaper leaves)

-- a basis leads to a basis
pub pivots_keep : (c : Case) (kept : List Column) (at last : List ℕ) (vs : List Pivot) → ArePivots c kept at vs last → length at ≡ 4 → IsBasis c kept at → IsBasis c kept last
unfolding ArePivots
pivots_keep c kept at last [] e long basis = rw (← e) basis
pivots_keep c kept at last (v ∷ vs) p long basis =
    pivots_keep c kept (slice_set at v.leave v.enter) last vs p.2 (length-set at v.leave v.enter ∙ long)
    (pivot_keeps c kept at v.enter v.leave basis p.0.inside (omega (arith, p.1.place, c.few, long)) p.1)

-- one column more
pub column_at-append : (cols : List Column) (col : Column) (j : ℕ) → j < length cols → column_at (cols ++ col ∷ []) j ≡ column_at cols j
column_at-append [] col j h = absurd (omega (arith, h))
column_at-append (d ∷ cols) col zero h = refl
column_at-append (d ∷ cols) col (suc j) h = column_at-append cols col j (omega (arith, h))

-- ---- a basis stays one
pub entries_same : (n : ℕ) → 1 ≤ n → n ≤ 4 → (m p : ℕ → ℕ → ℤ) → ((k i : ℕ) → k < n → i < n → m k i ≡ p k i) → determinant n m ≡ determinant n p
entries_same n low high m p h =
    filled-determinant n low high m
    ∙ determinant-same 4 (filled n m) (filled n p) (λ r c. filled_same n m p h r c (nat_lt r n) (nat_lt c n) refl refl)
    ∙ sym (filled-determinant n low high p)

amount_same : (n : ℕ) → 1 ≤ n → n ≤ 4 → (m p : ℕ → ℕ → ℤ) (x : ℕ → ℤ) (k : ℕ) → ((k i : ℕ) → k < n → i < n → m k i ≡ p k i) → amount n m x k ≡ amount n p x k
amount_same n low high m p x k h =
    rw (entries_same n low high m p h, entries_same n low high (with_row k x m) (with_row k x p) (λ r c g l. with_same (nat_eq r k) (x c) (m r c) (p r c) (h r c g l))) refl

pub basis_kept : (c : Case) (cols : List Column) (col : Column) (at : List ℕ) → IsBasis c cols at → IsBasis c (cols ++ col ∷ []) at
basis_kept c cols col at basis =
    let same : (k i : ℕ) → k < c.n → i < c.n → system (cols ++ col ∷ []) at k i ≡ system cols at k i =
    λ k i h g. ap (λ (d : Column). composition d i) (column_at-append cols col (slice_index at k) (basis.inside k h)) in
    record {
      inside = λ k h. rw (length-append cols (col ∷ [])) (omega (arith, basis.inside k h));
      spans = rw (entries_same c.n c.some c.few (system (cols ++ col ∷ []) at) (system cols at) same) basis.spans;
      feeds = λ k h. rw (amount_same c.n c.some c.few (system (cols ++ col ∷ []) at) (system cols at) (feed_of c) k same) (basis.feeds k h);
    }
