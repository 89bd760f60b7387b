-- The ranges of the parameters: the first fault of a case in the stated order, components counting from 1.
use Rattle.std.specs.Prelude.{ℕ, zero, suc, ◌+◌, ◌*◌, ◌^◌, Bool, ◌&&◌, not, nat_le, nat_lt, if◌then◌else◌, Option, Some, None, pos, int_lt}
use Rattle.std.specs.Int.{int_min}
use Rattle.case_types.specs.declared.cases.Case.{Case}
use Rattle.case_types.specs.declared.cases.ParamFault.{ParamFault}
use Rattle.case_types.specs.declared.cases.ParamFault.TheVariants.{BRange, BRatio, MRange, ARange}
use Rattle.case_types.specs.Energy.Components.{critical_temperature, critical_pressure}
use Rattle.case_types.specs.Arithmetic.Numbers.{Numbers, fits_lifted, numbers_of}
use Rattle.case_types.specs.Energy.Parameters.{covolume_num, covolume_den}
use Rattle.log_laws.specs.Sums.{all_below}
use Rattle.case_types.specs.Arithmetic.Tables.{ends_at, ends_of_pair}

-- the first that is there of f 0, f 1, .. below n
abbrev pub or_else : {X : Type 0} → Option X → Option X → Option X
or_else (Some x) later = Some x
or_else None later = later

unfoldable pub first_below : {X : Type 0} → ℕ → (ℕ → Option X) → Option X
first_below zero f = None
first_below (suc n) f = or_else (first_below n f) (f n)

abbrev pub fault_where : Bool → ParamFault → Option ParamFault
fault_where b f = if b then Some f else None

-- a covolume is below 2^-24
abbrev pub is_tiny : Case → ℕ → Bool
is_tiny c i = nat_lt (covolume_num c i * 2 ^ 24) (covolume_den c i)

-- the covolume of j is at most 1024 times that of i
abbrev pub is_near : Case → ℕ → ℕ → Bool
is_near c i j = nat_le (critical_temperature c j * critical_pressure c i) (critical_temperature c i * critical_pressure c j * 1024)

-- every covolume is at most 32, and some covolume is at least 2^-24
abbrev pub covolumes_in_range : Case → Bool
covolumes_in_range c = all_below c.n (fits_lifted c 0) && not (all_below c.n (is_tiny c))

-- no covolume is above 1024 times another
abbrev pub covolumes_are_near : Case → Bool
covolumes_are_near c = all_below c.n (λ i. all_below c.n (is_near c i))

abbrev pub alpha_fault : Numbers → ℕ → Option ParamFault
alpha_fault p i = fault_where (int_lt (ends_at p.alpha_roots i).lo (pos (2 ^ 38))) (MRange (i + 1))

-- the attraction of a pair is above 128 times the lesser covolume
abbrev pub attraction_fault : Numbers → ℕ → ℕ → Option ParamFault
attraction_fault p i j =
    fault_where
    (nat_le i j && int_lt (int_min (ends_at p.covolumes i).lo (ends_at p.covolumes j).lo) (ends_of_pair p.attractions i j).hi)
    (ARange (i + 1) (j + 1))

unfoldable pub fault_of : Case → Option ParamFault
fault_of c =
    or_else (fault_where (not (covolumes_in_range c)) BRange)
    (or_else (fault_where (not (covolumes_are_near c)) BRatio)
    (or_else (first_below c.n (alpha_fault (numbers_of c)))
    (first_below c.n (λ i. first_below c.n (attraction_fault (numbers_of c) i)))))
