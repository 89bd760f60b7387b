-- The tables of numbers of a case, entry by entry.
use Rattle.std.proofs.Common.{◌≡◌, ℕ, ◌<◌, List, [], refl, ◌∙◌, ap}
use Rattle.log_laws.specs.Between.{Ends}
use Rattle.case_types.specs.declared.cases.Case.{Case}
use Rattle.case_types.specs.Arithmetic.Numbers.{numbers_of, enclosures_of, lift_of, covolume_ends, alpha_root_ends, bare_attraction_ends, attraction_ends, pressure_root_of, table_below}
use Rattle.log_laws.specs.Sums.{list_below}
use Rattle.case_types.specs.Arithmetic.Tables.{ends_at, ends_of_pair, no_ends}
use Rattle.log_laws.proofs.Exports.{get_or-list_below}

-- an entry of a table
table_at : (n : ℕ) (f : ℕ → ℕ → Ends) (i j : ℕ) → i < n → j < n → ends_of_pair (table_below n f) i j ≡ f i j
table_at n f i j h g =
    ap (λ (row : List Ends). ends_at row j) (get_or-list_below n (λ i. list_below n (λ j. f i j)) [] i h)
    ∙ get_or-list_below n (λ j. f i j) no_ends j g

-- the numbers that are the same for all components
pub lift_of_numbers : (c : Case) → (numbers_of c).lift ≡ lift_of c
unfolding numbers_of
lift_of_numbers c = refl

pub two_of_numbers : (c : Case) → (numbers_of c).root_two ≡ (enclosures_of c).root_two
unfolding numbers_of
two_of_numbers c = refl

pub log_e_of_numbers : (c : Case) → (numbers_of c).log_e ≡ (enclosures_of c).log_e
unfolding numbers_of
log_e_of_numbers c = refl

-- the root of alpha of a component
pub alpha_root_at : (c : Case) (i : ℕ) → i < c.n →
    ends_at (numbers_of c).alpha_roots i ≡ alpha_root_ends c (ends_at (enclosures_of c).temperature_roots i) i
unfolding numbers_of
alpha_root_at c i h =
    get_or-list_below c.n (λ i. alpha_root_ends c (ends_at (enclosures_of c).temperature_roots i) i) no_ends i h

-- its co-volume
pub covolume_at : (c : Case) (i : ℕ) → i < c.n → ends_at (numbers_of c).covolumes i ≡ covolume_ends c (lift_of c) i
unfolding numbers_of
covolume_at c i h = get_or-list_below c.n (λ i. covolume_ends c (lift_of c) i) no_ends i h

-- the attraction of a pair without alpha
pub bare_attraction_at : (c : Case) (i j : ℕ) → i < c.n → j < c.n →
    ends_of_pair (numbers_of c).bare_attractions i j ≡ bare_attraction_ends c (lift_of c) (pressure_root_of c (enclosures_of c).pressure_roots i j) i j
unfolding numbers_of
bare_attraction_at c i j h g =
    table_at c.n (λ i j. bare_attraction_ends c (lift_of c) (pressure_root_of c (enclosures_of c).pressure_roots i j) i j) i j h g

-- and with it
pub attraction_at : (c : Case) (i j : ℕ) → i < c.n → j < c.n →
    ends_of_pair (numbers_of c).attractions i j
    ≡ attraction_ends (ends_of_pair (numbers_of c).bare_attractions i j) (ends_at (numbers_of c).alpha_roots i) (ends_at (numbers_of c).alpha_roots j)
unfolding numbers_of
attraction_at c i j h g =
    table_at c.n (λ i j. attraction_ends (ends_of_pair (numbers_of c).bare_attractions i j) (ends_at (numbers_of c).alpha_roots i) (ends_at (numbers_of c).alpha_roots j)) i j h g
