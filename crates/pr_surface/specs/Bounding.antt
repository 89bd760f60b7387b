-- What it says that the surface of Peng and Robinson bounds their energy, and what lows of its cells and upper energies then promise.
use Rattle.std.specs.Prelude.{◌≡◌, None, List, ℤ, ◌+ℤ◌, ◌-ℤ◌}
use Rattle.log_laws.specs.LogSum.{AtLeast, AtMost}
use Rattle.case_types.specs.declared.cases.Case.{Case}
use Rattle.case_types.specs.declared.phases.Split.{Split}
use Rattle.case_types.specs.Arithmetic.Bounds.{energy_up, plane_at}
use Rattle.case_types.specs.Energy.Divisions.{energy_of, bits, Division, Divides, division_of, energy_of_division, Certified}
use Rattle.case_types.specs.Arithmetic.Faults.{fault_of}
use Rattle.case_types.specs.Energy.Instances.{Instance, IsInstance}
use Rattle.case_types.specs.Arithmetic.Numbers.{numbers_of, enclosures_of}
use Rattle.case_types.specs.Arithmetic.Splits.{split_up}
use Rattle.case_types.specs.Grid.Cells.{root_region}
use Rattle.energy_surface.specs.Energies.{Bounds}
use Rattle.energy_surface.specs.Surfaces.{IsOver}
use Rattle.pr_surface.specs.PengRobinson.{surface_of}

-- the numbers of an accepted case bound its energy, for every instance between the printed ends
abbrev pub NumbersBound : Type 0
NumbersBound = (c : Case) (x : Instance) → fault_of c ≡ None → IsInstance c (enclosures_of c) x → Bounds (surface_of (numbers_of c)) (energy_of c x)

-- so every division of the feed has at least the energy of the plane at the feed and a low for a tree of the whole domain
abbrev pub LowsCertify : Type 0
LowsCertify =
    (c : Case) (x : Instance) (lam : List ℤ) (low : ℤ) (d : Division) → fault_of c ≡ None → IsInstance c (enclosures_of c) x →
    IsOver (surface_of (numbers_of c)) lam low (root_region c.n) → Divides c d →
    AtLeast (energy_of_division c x d) (bits (plane_at c.n lam c.z c.total +ℤ low))

-- and a split has at most its upper energy
abbrev pub UppersCertify : Type 0
UppersCertify =
    (c : Case) (x : Instance) (s : Split) → fault_of c ≡ None → IsInstance c (enclosures_of c) x → Divides c (division_of s) →
    AtMost (energy_of_division c x (division_of s)) (bits (split_up c.n (energy_up (numbers_of c)) s))

-- what a certificate states of a case: a split with its upper energy, and a plane with a low for a tree of the whole domain; the gap
-- is the upper energy, less the plane at the feed, less the low
pub record IsCertificate (c : Case) (split : Split) (u : ℤ) (lam : List ℤ) (low gap : ℤ) : Type 0 where
  pub accepted : fault_of c ≡ None
  pub divides : Divides c (division_of split)
  pub upper : u ≡ split_up c.n (energy_up (numbers_of c)) split
  pub over : IsOver (surface_of (numbers_of c)) lam low (root_region c.n)
  pub difference : gap ≡ (u -ℤ plane_at c.n lam c.z c.total) -ℤ low

-- so its split is certified with its upper energy and its gap
abbrev pub CertificatesCertify : Type 0
CertificatesCertify =
    (c : Case) (split : Split) (u : ℤ) (lam : List ℤ) (low gap : ℤ) → IsCertificate c split u lam low gap →
    Certified c (enclosures_of c) (division_of split) u gap
