-- Compositions on the grid of 2^-20.
use Rattle.std.specs.Prelude.{ℕ, zero, suc, ◌+◌, ◌-◌, ◌*◌, ◌/◌, ◌^◌, List, cond, nat_lt, slice_index, slice_set}
use Rattle.log_laws.specs.Sums.{sum_below, list_below}

-- the fraction of component i of n, rounded down, and 0 of one that isn't there
abbrev pub floor_fraction : ℕ → List ℕ → ℕ → ℕ
floor_fraction n parts i = cond (nat_lt i n) (slice_index parts i * 2 ^ 20 / sum_below n (slice_index parts)) 0

unfoldable pub floor_fractions : ℕ → List ℕ → List ℕ
floor_fractions n parts = list_below 4 (floor_fraction n parts)

-- the place of the first of the greatest among the first n
unfoldable pub first_greatest : ℕ → List ℕ → ℕ
first_greatest zero xs = 0
first_greatest (suc n) xs = greater xs n (first_greatest n xs)
  where
    greater : List ℕ → ℕ → ℕ → ℕ
    greater xs i before = cond (nat_lt (slice_index xs before) (slice_index xs i)) i before

-- what the fractions of n components leave of 1
abbrev pub missing : ℕ → List ℕ → ℕ
missing n fractions = 2 ^ 20 - sum_below n (slice_index fractions)

-- the fractions rounded down, with what is missing given to the first of the greatest
abbrev pub completed : ℕ → List ℕ → List ℕ
completed n fractions =
    let most = first_greatest n fractions in
    slice_set fractions most (slice_index fractions most + missing n fractions)

abbrev pub grid_fractions : ℕ → List ℕ → List ℕ
grid_fractions n parts = completed n (floor_fractions n parts)
