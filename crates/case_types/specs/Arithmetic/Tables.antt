-- Ends by component and by pair of components.
use Rattle.std.specs.Prelude.{ℕ, List, [], pos, slice_index_or}
use Rattle.log_laws.specs.Between.{Ends}

abbrev pub no_ends : Ends
no_ends = record { lo = pos 0; hi = pos 0 }

abbrev pub ends_at : List Ends → ℕ → Ends
ends_at vs i = slice_index_or vs i no_ends

-- row i, column j of a table of ends
abbrev pub ends_of_pair : List (List Ends) → ℕ → ℕ → Ends
ends_of_pair rows i j = ends_at (slice_index_or rows i []) j
