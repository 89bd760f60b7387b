-- The facts that the types keep, as tests over numbers and lists that compute.
use Rattle.std.specs.Prelude.{ℕ, ◌^◌, List, [], Bool, ◌&&◌, ◌||◌, ◌==◌, nat_le, nat_lt, ℤ, pos, neg_ℤ, int_le, slice_index, slice_index_or, unsigned_abs}
use Rattle.log_laws.specs.Sums.{all_below, sum_below}

-- ---- tests of lists
-- each entry of xs below n is at most that of ys
abbrev pub is_each_at_most : ℕ → List ℕ → List ℕ → Bool
is_each_at_most n xs ys = all_below n (λ i. nat_le (slice_index xs i) (slice_index ys i))

-- each entry below n is at most the limit
abbrev pub is_each_up_to : ℕ → List ℕ → ℕ → Bool
is_each_up_to n xs limit = all_below n (λ i. nat_le (slice_index xs i) limit)

-- each entry below n is of size below the limit
abbrev pub is_each_below : ℕ → List ℤ → ℕ → Bool
is_each_below n xs limit = all_below n (λ i. nat_lt (unsigned_abs (slice_index_or xs i (pos 0))) limit)

-- ---- names
-- a letter, a digit, `_` or `-` of ASCII
abbrev pub is_name_byte : ℕ → Bool
is_name_byte b =
    nat_le 97 b && nat_le b 122 || nat_le 65 b && nat_le b 90 || nat_le 48 b && nat_le b 57 || b == 95 || b == 45

-- the first len of 16 bytes are those of a name and the others are 0
abbrev pub is_name : ℕ → List ℕ → Bool
is_name len bytes =
    all_below 16 (λ i. nat_lt i len && is_name_byte (slice_index bytes i) || nat_le len i && slice_index bytes i == 0)

-- ---- the ranges of a component
-- a critical temperature in mK
abbrev pub is_critical_temperature : ℕ → Bool
is_critical_temperature tc = nat_le 5000 tc && nat_le tc 1500000

-- a critical pressure in Pa
abbrev pub is_critical_pressure : ℕ → Bool
is_critical_pressure pc = nat_le 100000 pc && nat_le pc 50000000

-- an acentric factor in 1e-4
abbrev pub is_acentric_factor : ℤ → Bool
is_acentric_factor w = int_le (neg_ℤ (pos 5000)) w && int_le w (pos 15000)

-- ---- interactions
-- row i, column j
abbrev pub entry : List (List ℤ) → ℕ → ℕ → ℤ
entry rows i j = slice_index_or (slice_index_or rows i []) j (pos 0)

-- an interaction in 1e-4
abbrev pub is_interaction : ℤ → Bool
is_interaction k = int_le (neg_ℤ (pos 5000)) k && int_le k (pos 5000)

-- in range, the same either way round, and 0 on the diagonal
abbrev pub are_interactions : List (List ℤ) → Bool
are_interactions rows =
    all_below 4 (λ i. all_below 4 (λ j. is_interaction (entry rows i j) && int_le (entry rows i j) (entry rows j i)))
    && all_below 4 (λ i. int_le (entry rows i i) (pos 0) && int_le (pos 0) (entry rows i i))

-- ---- phases
-- each part is below 2 ^ 104 and one at least is there
abbrev pub are_parts : List ℕ → Bool
are_parts parts = all_below 4 (λ i. nat_lt (slice_index parts i) (2 ^ 104)) && nat_le 1 (sum_below 4 (slice_index parts))

-- a packing on the grid, strictly between 0 and 1, in 2 ^ -40
abbrev pub is_packing : ℕ → Bool
is_packing y = nat_le 1 y && nat_lt y (2 ^ 40)
