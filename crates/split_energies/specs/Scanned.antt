-- States of one phase, and which of them has the least energy.
use Rattle.std.specs.Prelude.{ℕ, ◌^◌, ◌<◌, ◌≤◌, ◌≡◌, List, [], ◌∷◌, if◌then◌else◌, int_le, ◌≤ℤ◌, ◌<ℤ◌, unsigned_abs}
use Rattle.case_types.specs.Arithmetic.Bounds.{Box}
use Rattle.energy_surface.specs.Scans.{scan_packing}
use Rattle.energy_surface.specs.Surfaces.{Surface}
use Rattle.split_energies.specs.declared.scans.Scanned.{Scanned}

-- a packing fraction on the grid, strictly between 0 and 1
pub record IsInside (y : ℕ) : Type 0 where
  pub some : 1 ≤ y
  pub less : y < 2 ^ 40

-- of the packing fractions at the places below the limit, the first one at which the upper energy over the box is least
pub record IsScannedBelow (s : Surface) (x : Box) (limit : ℕ) (found : Scanned) : Type 0 where
  pub place : ℕ
  pub inside : place < limit
  pub at : found.packing ≡ scan_packing place
  pub up : found.up ≡ s.up x found.packing
  pub small : unsigned_abs found.up < 2 ^ 49
  pub least : (k : ℕ) → k < limit → found.up ≤ℤ s.up x (scan_packing k)
  pub first : (k : ℕ) → k < place → found.up <ℤ s.up x (scan_packing k)

-- of all 64
abbrev pub IsScanned : Surface → Box → Scanned → Type 0
IsScanned s x found = IsScannedBelow s x 64 found

-- a packing fraction with the upper energy over the box there
abbrev pub state_at : Surface → Box → ℕ → Scanned
state_at s x y = record { packing = y; up = s.up x y }

-- the first of equals
abbrev pub lower_of : Scanned → Scanned → Scanned
lower_of a b = if int_le a.up b.up then a else b

-- the first state of least energy, of those at some packing fractions and of a last one
unfoldable pub lowest_of : Surface → Box → List ℕ → Scanned → Scanned
lowest_of s x [] last = last
lowest_of s x (y ∷ ys) last = lower_of (state_at s x y) (lowest_of s x ys last)
