-- What is known of the surfaces of a flash that takes any case.
use Rattle.std.specs.Prelude.{◌≡◌, None}
use Rattle.case_types.specs.declared.cases.Case.{Case}
use Rattle.case_types.specs.Arithmetic.Faults.{fault_of}
use Rattle.case_types.specs.Arithmetic.Numbers.{enclosures_of}
use Rattle.case_types.specs.Energy.Divisions.{energy_of}
use Rattle.case_types.specs.Energy.Instances.{Instance, IsInstance}
use Rattle.energy_surface.specs.Energies.{Bounds}
use Rattle.energy_surface.specs.Surfaces.{Surface}

-- the surface of a case whose parameters are accepted bounds its energy, for every instance between the printed ends
abbrev pub BoundCases : (Case → Surface) → Type 0
BoundCases s = (c : Case) (x : Instance) → fault_of c ≡ None → IsInstance c (enclosures_of c) x → Bounds (s c) (energy_of c x)
