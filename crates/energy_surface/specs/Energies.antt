-- Any energy of states: what it means that a surface bounds it, and what lows and upper energies then promise.
use Rattle.std.specs.Prelude.{ℕ, ◌≡◌, ◌*◌, ◌^◌, ◌<◌, ◌≤◌, List, IsFalse, Some, ℤ, pos, ◌+ℤ◌, ◌*ℤ◌, ◌≤ℤ◌, slice_index}
use Rattle.log_laws.specs.LogSum.{LogSum, AtLeast, AtMost, ratio}
use Rattle.log_laws.specs.Sums.{sum_below}
use Rattle.case_types.specs.declared.cases.Case.{Case}
use Rattle.case_types.specs.declared.phases.Split.{Split}
use Rattle.case_types.specs.Arithmetic.Bounds.{Box, one, plane_at, potential}
use Rattle.case_types.specs.Energy.Components.{feed}
use Rattle.case_types.specs.Grid.Cells.{Region, root_region, misses, IsWithin}
use Rattle.case_types.specs.Energy.Divisions.{State, IsState, bits, Division, Divides, division_of, energy_of_phases}
use Rattle.case_types.specs.Arithmetic.Holding.{IsInBox}
use Rattle.case_types.specs.Arithmetic.Splits.{split_up}
use Rattle.case_types.specs.Arithmetic.Bounds.{plane_sum}
use Rattle.case_types.specs.Energy.Weighing.{IsAbovePlane}
use Rattle.energy_surface.specs.Surfaces.{Surface, IsOver}

-- no fraction of the box is above 1
abbrev pub HasFractions : ℕ → Box → Type 0
HasFractions n x = (i : ℕ) → i < n → slice_index x.hi i ≤ one

-- the cell lies in the domain
pub record IsInside (r : Region) : Type 0 where
  pub low : r.ylo ≤ one
  pub high : r.yhi ≤ one
  pub free_low : (i : ℕ) → slice_index r.lo i ≤ 2 ^ 20
  pub free_high : (i : ℕ) → slice_index r.hi i ≤ 2 ^ 20

-- the surface bounds the energy of one mole of a state
pub record Bounds (s : Surface) (energy : State → LogSum) : Type 0 where
  -- from below over a box and a range of packings
  pub low : (x : Box) (yl yh : ℕ) (f : State) → HasFractions s.count x → yh ≤ one → IsInBox s.count x f → IsState s.count f →
      pos (yl * f.packing.den) ≤ℤ (f.packing.num *ℤ pos one) → (f.packing.num *ℤ pos one) ≤ℤ pos (yh * f.packing.den) →
      AtLeast (energy f) (bits (s.low x yl yh))
  -- from above over a box and at a packing
  pub up : (x : Box) (y : ℕ) (f : State) → HasFractions s.count x → IsInBox s.count x f → IsState s.count f → f.packing ≡ ratio y one →
      AtMost (energy f) (bits (s.up x y))
  -- over a cell from below by a plane and the slope low, where there is one
  pub slope : (lam : List ℤ) (r : Region) (low : ℤ) (f : State) → IsInside r → IsFalse (misses s.count r) → s.slope lam r ≡ Some low →
      IsState s.count f → IsWithin s.count r f → IsAbovePlane s.count energy (potential lam) low f

-- ---- laws
-- a plane that every state is above by a low is below every division by that low
abbrev pub WeakDuality : Type 0
WeakDuality =
    (c : Case) (energy : State → LogSum) (lam : ℕ → ℤ) (low : ℤ) (d : Division) → Divides c d →
    sum_below c.n (feed c) ≡ c.total → 0 < c.total →
    ((f : State) → IsState c.n f → IsAbovePlane c.n energy lam low f) →
    AtLeast (energy_of_phases c.n energy d.sum d.phases)
    (record { num = plane_sum c.n lam (feed c) +ℤ low *ℤ pos c.total; den = c.total * 2 ^ 40 })

-- where a surface bounds an energy, a division lies at least a low for a tree of the whole domain above the plane at the feed
abbrev pub LowsCertify : Type 0
LowsCertify =
    (s : Surface) (energy : State → LogSum) (c : Case) (lam : List ℤ) (low : ℤ) (d : Division) → Bounds s energy → s.count ≡ c.n → 0 < c.total →
    IsOver s lam low (root_region s.count) → Divides c d →
    AtLeast (energy_of_phases c.n energy d.sum d.phases) (bits (plane_at c.n lam c.z c.total +ℤ low))

-- and a split has at most its upper energy
abbrev pub UppersCertify : Type 0
UppersCertify =
    (s : Surface) (energy : State → LogSum) (c : Case) (split : Split) → Bounds s energy → s.count ≡ c.n → Divides c (division_of split) →
    AtMost (energy_of_phases c.n energy split.sum (division_of split).phases) (bits (split_up s.count s.up split))
