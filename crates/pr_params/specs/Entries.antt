-- The numbers of a case by component and by pair, and the arrays of four that hold them.
use Rattle.std.specs.Prelude.{ℕ, ◌^◌, List, [], ◌∷◌, ◌&&◌, cond, nat_lt, ℤ, pos, ◌*ℤ◌, map}
use Rattle.log_laws.specs.Between.{Ends}
use Rattle.log_laws.specs.Roots.{root_ends}
use Rattle.log_laws.specs.Whole.{ceil_div}
use Rattle.log_laws.specs.declared.iv.Iv.{Iv}
use Rattle.log_laws.specs.Interval.{ends_of}
use Rattle.case_types.specs.declared.cases.Case.{Case}
use Rattle.case_types.specs.Energy.Components.{critical_temperature}
use Rattle.case_types.specs.Arithmetic.Numbers.{lift_of, enclosures_of, covolume_ends, alpha_root_ends, pressure_root_of, bare_attraction_ends, attraction_ends}
use Rattle.case_types.specs.Arithmetic.Tables.{no_ends}

-- ---- of live components
unfoldable pub temperature_entry : Case → ℕ → Ends
temperature_entry c i = root_ends c.t (critical_temperature c i) 48

unfoldable pub alpha_entry : Case → ℕ → Ends
alpha_entry c i = alpha_root_ends c (temperature_entry c i) i

unfoldable pub covolume_entry : Case → ℕ → Ends
covolume_entry c i = covolume_ends c (lift_of c) i

-- the root of the product of two critical pressures
unfoldable pub pressure_entry : Case → ℕ → ℕ → Ends
pressure_entry c i j = pressure_root_of c (enclosures_of c).pressure_roots i j

-- the attraction without alpha
unfoldable pub bare_entry : Case → ℕ → ℕ → Ends
bare_entry c i j = bare_attraction_ends c (lift_of c) (pressure_entry c i j) i j

unfoldable pub attraction_entry : Case → ℕ → ℕ → Ends
attraction_entry c i j = attraction_ends (bare_entry c i j) (alpha_entry c i) (alpha_entry c j)

-- the attraction over the first component's co-volume at most
unfoldable pub ratio_entry : Case → ℕ → ℕ → ℤ
ratio_entry c i j = ceil_div ((attraction_entry c i j).hi *ℤ pos (2 ^ 47)) (covolume_entry c i).lo

-- ---- of four places
abbrev pub four : {X : Type 0} → (ℕ → X) → List X
four f = f 0 ∷ f 1 ∷ f 2 ∷ f 3 ∷ []

-- f i for a component below n, and no ends from there on
abbrev pub live_ends : ℕ → (ℕ → Ends) → ℕ → Ends
live_ends n f i = cond (nat_lt i n) (f i) no_ends

-- the same of two components
abbrev pub live_pair : ℕ → (ℕ → ℕ → Ends) → ℕ → ℕ → Ends
live_pair n f i j = cond (nat_lt i n && nat_lt j n) (f i j) no_ends

abbrev pub ends_of_all : List Iv → List Ends
ends_of_all vs = map ends_of vs

abbrev pub ends_of_table : List (List Iv) → List (List Ends)
ends_of_table rows = map ends_of_all rows

abbrev pub filled : ℕ → (ℕ → Ends) → List Ends
filled n f = four (live_ends n f)

abbrev pub filled_table : ℕ → (ℕ → ℕ → Ends) → List (List Ends)
filled_table n f = four (λ i. four (live_pair n f i))
