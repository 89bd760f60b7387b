-- The low of a cell from a bound of the energy over it and the plane over it.
use Rattle.std.proofs.Common.{◌≡◌, ℕ, ℤ, ◌-ℤ◌, List, refl}
use Rattle.case_types.specs.Arithmetic.Bounds.{Box, plane_high}
use Rattle.case_types.specs.Grid.Cells.{Region, box_of_region, cell_low}

pub low_is : (n : ℕ) (low : Box → ℕ → ℕ → ℤ) (lam : List ℤ) (r : Region) (x : Box) (energy plane : ℤ) → x ≡ box_of_region n r →
    energy ≡ low x r.ylo r.yhi → plane ≡ plane_high n lam x → energy -ℤ plane ≡ cell_low n low lam r
unfolding cell_low
low_is n low lam r x energy plane at e f = rw (e, f, at) refl

-- a box with the ends of another is that box
pub box_same : (a b : List ℕ) (y : Box) → a ≡ y.lo → b ≡ y.hi → ◌≡◌ {A = Box} (record { lo = a; hi = b }) y
box_same a b y e f = rw (e, f) refl
