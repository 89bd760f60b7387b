-- What any walk over the states of the feed in one phase promises.
use Rattle.std.specs.Prelude.{ℕ, ◌≡◌, None}
use Rattle.case_types.specs.declared.cases.Case.{Case}
use Rattle.case_types.specs.Arithmetic.Faults.{fault_of}
use Rattle.fibre_bound.specs.declared.fibres.Fibre.{Fibre}
use Rattle.fibre_bound.specs.OnePhase.{HoldsOnePhase}

-- of a case, a tolerance, a budget and the units spent: the walk came to these bounds
abbrev pub IsWalk : Type 1
IsWalk = Case → ℕ → ℕ → ℕ → Fibre → Type 0

-- the bounds hold wherever the parameters are accepted
abbrev pub WalksHold : IsWalk → Type 0
WalksHold is_walk =
    (c : Case) (tol budget units : ℕ) (f : Fibre) → fault_of c ≡ None → is_walk c tol budget units f → HoldsOnePhase c tol f
