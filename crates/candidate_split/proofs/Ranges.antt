-- What tests over four numbers say of each of them.
use Rattle.std.proofs.Common.{ℕ, ◌<◌, List, ℤ, pos, unsigned_abs, slice_index_or, IsTrue}
use Rattle.std.specs.Prelude.{nat_lt}
use Rattle.std.proofs.lemmas.Bool.{ltb-true}
use Rattle.log_laws.proofs.Exports.{all_below-at}
use Rattle.case_types.specs.Ranges.{is_each_below}

pub below_at : (xs : List ℤ) (limit i : ℕ) → i < 4 → IsTrue (is_each_below 4 xs limit) → unsigned_abs (slice_index_or xs i (pos 0)) < limit
below_at xs limit i h t =
    ltb-true (unsigned_abs (slice_index_or xs i (pos 0))) limit (all_below-at 4 (λ i. nat_lt (unsigned_abs (slice_index_or xs i (pos 0))) limit) i h t)
