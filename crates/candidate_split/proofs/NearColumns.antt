-- The columns of the phases so far, and one more.
use Rattle.std.proofs.Common.{ℕ, ◌≡◌, ◌<◌, ◌≤◌, ◌+◌, Bool, true, false, List, [], ◌∷◌, ◌++◌, if◌then◌else◌, length, slice_index_or, take, add-one, arith}
use Rattle.std.proofs.Math.Seq.{take-suc}
use Rattle.std.proofs.lemmas.List.{flat_map_more, length-append}
use Rattle.case_types.specs.declared.phases.Phase.{Phase}
use Rattle.case_types.specs.declared.rounds.Column.{Column}
use Rattle.energy_surface.specs.Surfaces.{Surface}
use Rattle.candidate_split.specs.Columns.{column_near, column_there, columns_near, has_column, point_near}

one_at_most : (b : Bool) (column : Column) → length (if b then column ∷ [] else []) ≤ 1
one_at_most true column = omega arith
one_at_most false column = omega arith

pub columns_more : (s : Surface) (n : ℕ) (fs : List Phase) (k : ℕ) (d : Phase) (columns : List Column) → k < length fs → columns ≡ columns_near s n (take k fs) →
    columns ++ column_near s n (slice_index_or fs k d) ≡ columns_near s n (take (k + 1) fs)
columns_more s n fs k d columns h e = rw (e, add-one k, take-suc fs k d h) (flat_map_more (column_near s n) [] (take k fs) (slice_index_or fs k d))

pub few_more : (s : Surface) (n k : ℕ) (f : Phase) (columns : List Column) → length columns ≤ k → length (columns ++ column_near s n f) ≤ k + 1
few_more s n k f columns h =
    omega (arith, h, length-append columns (column_near s n f), one_at_most (has_column s (point_near n f)) (column_there s (point_near n f)))
