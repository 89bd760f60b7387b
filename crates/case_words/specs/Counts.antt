-- Lists of the same length, and ends in order.
use Rattle.std.specs.Prelude.{ℕ, List, length, Bool, true, ◌==◌, nat_lt, Option, Some, None}

-- as many as there are of the others, where those were given
abbrev pub is_as_many : ℕ → Option ℕ → Bool
is_as_many n None = true
is_as_many n (Some m) = n == m

-- how many there are, where they were given
abbrev pub count_of : {A : Type 0} → Option (List A) → Option ℕ
count_of None = None
count_of (Some xs) = Some (length xs)

-- the lower end is below the upper, where both were given
abbrev pub are_ordered : Option ℕ → Option ℕ → Bool
are_ordered (Some lo) (Some hi) = nat_lt lo hi
are_ordered lo hi = true
