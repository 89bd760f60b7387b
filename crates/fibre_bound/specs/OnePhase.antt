-- The feed in one phase: what bounds of its energy promise, whatever the instance.
use Rattle.std.specs.Prelude.{ℕ, ◌≡◌, ◌*◌, ◌^◌, ◌<◌, ◌≤◌, ◌↔◌, All, List, [], ◌∷◌, ℤ, pos, ◌-ℤ◌, ◌≤ℤ◌, None}
use Rattle.log_laws.specs.LogSum.{AtLeast, AtMost, ratio}
use Rattle.case_types.specs.declared.cases.Case.{Case}
use Rattle.case_types.specs.Arithmetic.Faults.{fault_of}
use Rattle.case_types.specs.Arithmetic.Numbers.{enclosures_of}
use Rattle.case_types.specs.Energy.Components.{feed}
use Rattle.case_types.specs.Energy.Divisions.{State, Division, Divides, bits, energy_of_division}
use Rattle.case_types.specs.Energy.Instances.{Instance, IsInstance}
use Rattle.energy_surface.specs.Flashes.{BoundCases}
use Rattle.energy_surface.specs.Surfaces.{Surface}
use Rattle.split_energies.specs.Scanned.{IsInside}
use Rattle.fibre_bound.specs.declared.fibres.Fibre.{Fibre}
use Rattle.fibre_bound.specs.declared.fibres.FibreEnd.TheVariants.{Clear}
use Rattle.fibre_bound.specs.Laws.{IsAlone}
use Rattle.fibre_bound.specs.Walks.{IsFibre, question_of}

-- the whole feed in one phase, at a packing fraction in 2^-40
abbrev pub one_phase : Case → ℕ → Division
one_phase c packing = record { sum = c.total; phases = record { parts = feed c; packing = ratio packing (2 ^ 40) } ∷ [] }

-- every state of the feed in one phase has at least this energy
abbrev pub IsBelowOnePhase : Case → ℤ → Type 0
IsBelowOnePhase c low =
    (x : Instance) → IsInstance c (enclosures_of c) x → (d : Division) (f : State) → IsAlone c d f → AtLeast (energy_of_division c x d) (bits low)

-- the state at this packing fraction has at most this energy
pub record IsOnePhase (c : Case) (packing : ℕ) (up : ℤ) : Type 0 where
  pub some : 1 ≤ packing
  pub less : packing < 2 ^ 40
  pub divides : Divides c (one_phase c packing)
  pub at_most : (x : Instance) → IsInstance c (enclosures_of c) x → AtMost (energy_of_division c x (one_phase c packing)) (bits up)

-- both bounds hold, and they are near exactly where the walk is clear
pub record HoldsOnePhase (c : Case) (tol : ℕ) (f : Fibre) : Type 0 where
  pub low : IsBelowOnePhase c f.low
  pub up : IsOnePhase c f.packing f.up
  pub clear : (f.end ≡ Clear) ↔ ((f.up -ℤ f.low) ≤ℤ pos (tol * 2 ^ 14))

-- so it is for every walk over a surface that bounds the energies of cases
abbrev pub FibresHold : Type 0
FibresHold =
    (surface : Case → Surface) → BoundCases surface → ((c : Case) → (surface c).count ≡ c.n) →
    (c : Case) (packings : List ℕ) (tol units spent : ℕ) (f : Fibre) → fault_of c ≡ None → All IsInside packings →
    IsFibre (question_of (surface c) c packings tol) units spent f → HoldsOnePhase c tol f
