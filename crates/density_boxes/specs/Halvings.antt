-- How often a cell can still be halved.
use Rattle.std.specs.Prelude.{ℕ, ◌^◌, cond, nat_lt}
use Rattle.case_types.specs.Grid.Cells.{Region, edge_length}
use Rattle.log_laws.specs.Sums.{sum_below}

-- how many powers of two are below a length of at most 2^40: so often it can be halved, rounded up, until it is 1
unfoldable pub halvings_of : ℕ → ℕ
halvings_of length = sum_below 40 (λ k. cond (nat_lt (2 ^ k) length) 1 0)

-- those of all four edges
unfoldable pub halvings_left : Region → ℕ
halvings_left r = sum_below 4 (λ edge. halvings_of (edge_length r edge))
