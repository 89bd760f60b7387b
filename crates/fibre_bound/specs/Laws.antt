-- What a walk over the packing fractions of the feed in one phase says of the energies of its states.
use Rattle.std.specs.Prelude.{ℕ, ◌≡◌, ◌*◌, ◌^◌, ◌<◌, ◌≤◌, ◌↔◌, [], ◌∷◌, pos, ◌-ℤ◌, ◌≤ℤ◌}
use Rattle.case_types.specs.declared.cases.Case.{Case}
use Rattle.case_types.specs.Arithmetic.Bounds.{box_of_parts}
use Rattle.energy_surface.specs.Surfaces.{Surface}
use Rattle.case_types.specs.Energy.Divisions.{State, Division, Divides}
use Rattle.fibre_bound.specs.declared.fibres.Fibre.{Fibre}
use Rattle.fibre_bound.specs.declared.fibres.FibreEnd.{FibreEnd}
use Rattle.fibre_bound.specs.declared.fibres.FibreEnd.TheVariants.{Clear, Spent, Grain}

-- a division of the feed of one phase alone
pub record IsAlone (c : Case) (d : Division) (f : State) : Type 0 where
  pub divides : Divides c d
  pub phases : d.phases ≡ f ∷ []

-- a cell of one unit lies between the packing fractions 0 and 1
abbrev pub GrainIsInside : FibreEnd → Type 0
GrainIsInside Clear = Unit {0}
GrainIsInside Spent = Unit {0}
GrainIsInside (Grain p) = p < 2 ^ 40

-- the state is one of the feed, and the walk is clear exactly where the bounds are near
pub record IsBound (s : Surface) (c : Case) (tol : ℕ) (f : Fibre) : Type 0 where
  pub some : 1 ≤ f.packing
  pub inside : f.packing < 2 ^ 40
  pub up : f.up ≡ s.up (box_of_parts c.n c.z) f.packing
  pub near : (f.end ≡ Clear) ↔ ((f.up -ℤ f.low) ≤ℤ pos (tol * 2 ^ 14))
  pub grain : GrainIsInside f.end
